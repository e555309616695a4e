-- A key that was read can be written.
use Rattle.std.proofs.Common.{ℕ, List}
use Rattle.addr_keys.specs.declared.key.Key.{Key}
use Rattle.addr_keys.specs.Format.{KeyAt, IsWritable}
use Rattle.addr_keys.proofs.FormLemmas.{is_writable}

pub writable_at : (bytes : List ℕ) (at : ℕ) (key : Key) (end : ℕ) → KeyAt bytes at key end → IsWritable key
writable_at bytes at key end is = is_writable key _ is.2
