use Rattle.std.proofs.Common.{◌++◌, take, List}
use Rattle.addr_locate.specs.Lookups.{AreFound}
use Rattle.addr_base.specs.declared.ids.BundleNo.{BundleNo}
use Rattle.addr_locate.proofs.merging.add_deps.Given as goal

abbrev pub invariant-loop-dep : goal.invariant-loop-dep
invariant-loop-dep l = (before : List BundleNo) → AreFound before l.fn.found l.fn.seen → AreFound (before ++ take l.dep-index l.deps) l.found l.seen
