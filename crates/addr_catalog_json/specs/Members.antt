-- The digest of a bundle as a member of its options.
use Rattle.std.specs.Prelude.{[], Option, Some, replicate}
use Rattle.serde_json.specs.Data.{Data, string}
use Rattle.addr_base.specs.declared.ids.Digest.{Digest}
use Rattle.addr_json.specs.Members.{digest_in}

-- the digest whose bytes are all 0
abbrev pub zero_digest : Digest
zero_digest = record { 0 = replicate 16 0 }

-- the digest of a bundle: that of its digits, or the zero digest where the text is empty
abbrev pub hash_of : Data → Option Digest
hash_of (string []) = Some zero_digest
hash_of d = digest_in d
