-- The limits of a project, and of what is planned and built of it: one table, which tests, code and pages cite.
use Rattle.std.specs.Prelude.{ℕ}
use Rattle.addr_project.specs.declared.limit.Limit.{Limit}
use Rattle.addr_project.specs.declared.limit.Limit.TheVariants as limit

-- the most that a count may be
abbrev pub most : Limit → ℕ
most limit.Variables = 64
most limit.Groups = 1024
most limit.Assets = 65536
most limit.Entries = 65536
most limit.Labels = 32
most limit.Refs = 1024
most limit.AllRefs = 1000000
most limit.Expanded = 1024
most limit.AssetBytes = 67108864
most limit.AllBytes = 268435456
most limit.BundleName = 200
most limit.Members = 4000000
most limit.Deps = 4000000
most limit.BundleBytes = 1073741824
