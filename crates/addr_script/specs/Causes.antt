-- Why a fetch of a bundle failed, as a line spells it.
use Rattle.std.specs.Prelude.{ℕ, ◌<◌, ◌^◌, List, ◌∷◌, ◌++◌, codes, decimal}
use Rattle.addr_base.specs.Ids.{hex_of}
use Rattle.addr_base.specs.declared.cause.Cause.{Cause}
use Rattle.addr_base.specs.declared.cause.Cause.TheVariants.{Fault, Missing, Refused, TooLong, BadSize, BadDigest, BadImage, NoMemory}
use Rattle.addr_base.specs.declared.cause.Layer.{Layer}
use Rattle.addr_base.specs.declared.cause.Layer.TheVariants.{UnityFs, Cab}

-- the name of a reader
abbrev pub layer_word : Layer → List ℕ
layer_word UnityFs = codes "unityfs"
layer_word Cab = codes "cab"

-- a colon (58) parts the fields of a cause
abbrev pub cause_text : Cause → List ℕ
cause_text (Fault n) = codes "fault:" ++ decimal n
cause_text Missing = codes "missing"
cause_text (Refused status) = codes "refused:" ++ decimal status
cause_text (TooLong n) = codes "toolong:" ++ decimal n
cause_text (BadSize want got) = codes "size:" ++ (decimal want ++ 58 ∷ decimal got)
cause_text (BadDigest want got) = codes "digest:" ++ (hex_of want.0 ++ 58 ∷ hex_of got.0)
cause_text (BadImage layer number) = codes "image:" ++ (layer_word layer ++ 58 ∷ decimal number)
cause_text NoMemory = codes "memory"

-- the causes that a line of a script may give: those that a fetch itself answers
abbrev pub IsGivenCause : Cause → Type 0
IsGivenCause (Fault n) = n < 2 ^ 64
IsGivenCause Missing = Unit {0}
IsGivenCause (Refused status) = status < 2 ^ 16
IsGivenCause (TooLong n) = n < 2 ^ 64
IsGivenCause _ = ⊥
