-- What is told of the bytes of a bundle's file, as the definitions of intact and of faults say it.
use Rattle.std.proofs.Common.{◌≡◌, ◌≢◌, ◌<◌, ◌^◌, ℕ, List, [], ◌∷◌, length, map, None, refl, sym, ap, ◌∙◌}
use Rattle.std.specs.Prelude.{Ok}
use Rattle.addr_base.specs.declared.files.MemFile.{MemFile}
use Rattle.addr_base.specs.declared.ids.Digest.{Digest as Sum}
use Rattle.addr_base.specs.declared.ids.Guid.{Guid}
use Rattle.addr_cab.specs.Lookup.{Held, object_bytes}
use Rattle.addr_cab.specs.Objects.{objects_of}
use Rattle.addr_cab.specs.declared.object.ObjectOut.{ObjectOut}
use Rattle.addr_cab.specs.declared.object.ObjectRow.{ObjectRow}
use Rattle.addr_held.specs.Opening.{IsIntactAs}
use Rattle.addr_held.specs.within.Steps.{Opens, TellsBytes}
use Rattle.addr_state.specs.declared.model.StateBundle.{StateBundle}
use Rattle.addr_update.specs.Intact.{IsFileFault, IsThere}
use Rattle.addr_update.specs.declared.model.NotIntact.TheVariants.{Objects}
use Rattle.hex.specs.Hex.{IsBytes}

pub same-digest : (x y : Sum) → x.0 ≡ y.0 → x ≡ y
same-digest x y same = λ i. record { 0 = same i }

-- the GUIDs of what was read are those of its rows
guids-of : (c : Held) (rows : List ObjectRow) → map (λ (o : ObjectOut). o.guid) (map (λ (o : ObjectRow). let out : ObjectOut = record { guid = o.guid; bytes = object_bytes c o; refs = o.refs } in out) rows) ≡ map (λ (o : ObjectRow). o.guid) rows
guids-of c [] = refl
guids-of c (o ∷ os) = ap (λ (gs : List Guid). o.guid ∷ gs) (guids-of c os)

pub listed-of : (c : Held) (rows : List ObjectRow) (listed objects : List Guid) → rows ≡ c.rows → listed ≡ objects → map (λ (o : ObjectRow). o.guid) rows ≡ listed → map (λ (o : ObjectOut). o.guid) (objects_of c) ≡ objects
listed-of c rows listed objects own is same = guids-of c c.rows ∙ (ap (map (λ (o : ObjectRow). o.guid)) (sym own) ∙ (same ∙ is))

pub listed-back : (c : Held) (rows : List ObjectRow) (listed objects : List Guid) → rows ≡ c.rows → listed ≡ objects → map (λ (o : ObjectOut). o.guid) (objects_of c) ≡ objects → map (λ (o : ObjectRow). o.guid) rows ≡ listed
listed-back c rows listed objects own is same = ap (map (λ (o : ObjectRow). o.guid)) own ∙ (sym (guids-of c c.rows) ∙ (same ∙ sym is))

-- a file with other objects than are listed
pub fault-of-objects : (files : List MemFile) (folder : List ℕ) (old : StateBundle) (file : List ℕ) (held : Held) → IsThere files folder old file → TellsBytes old file None → Opens file (Ok held)
    → map (λ o. o.guid) (objects_of held) ≢ old.objects → IsFileFault files folder old Objects
fault-of-objects files folder old file held there tells (cab, holds) other = (file, (there, tells.0, tells.1), cab, objects_of held, holds, other)

-- and one with those
pub intact-file : (files : List MemFile) (folder : List ℕ) (old : StateBundle) (file : List ℕ) (held : Held) → IsBytes file → length file < 2 ^ 63 → IsThere files folder old file → TellsBytes old file None
    → Opens file (Ok held) → map (λ o. o.guid) (objects_of held) ≡ old.objects → IsIntactAs files folder old held
intact-file files folder old file held bytes short there tells (cab, holds) same = record {
  file = file;
  there = there;
  bytes = bytes;
  short = short;
  size = tells.0;
  digest = tells.1;
  name = refl;
  cab = cab;
  holds = holds;
  objects = same;
}
