-- Assets and entries are named once: a GUID has one number, one entry, and a place in one bundle.
use Rattle.std.proofs.Common.{◌≡◌, ℕ, Some, sym, ap, subst, ◌∙◌}
use Rattle.std.specs.List.{Contains}
use Rattle.addr_base.specs.declared.ids.Guid.{Guid}
use Rattle.addr_pack.specs.declared.bundles.Plan.{Plan}
use Rattle.addr_project.specs.declared.model.Asset.{Asset}
use Rattle.addr_project.specs.declared.model.Entry.{Entry}
use Rattle.addr_project.specs.Kept.{IsKept}
use Rattle.addr_project.specs.Model.{Project}
use Rattle.addr_project.proofs.OnceLemmas.{to_map}
use Rattle.addr_layout.specs.Members.{HasEntry, IsEntryOf, IsNumbered, IsShared}

-- two numbers of one GUID are the same
pub one-number : (p : Project) → IsKept p → (m n : ℕ) (g : Guid) → IsNumbered p m g → IsNumbered p n g → m ≡ n
one-number p kept m n g (a, at, is) (b, there, was) =
    kept.assets_once m n g.0 (to_map (λ (x : Asset). x.guid.0) p.assets m a at ∙ ap (λ (h : Guid). Some h.0) is) (to_map (λ (x : Asset). x.guid.0) p.assets n b there ∙ ap (λ (h : Guid). Some h.0) was)

-- two entries of one GUID are the same
pub one-entry : (p : Project) → IsKept p → (x y : ℕ) (g : Guid) → IsEntryOf p x g → IsEntryOf p y g → x ≡ y
one-entry p kept x y g (d, at, numbered) (e, there, also) =
    kept.entries_once x y d.asset (to_map (λ (z : Entry). z.asset) p.entries x d at) (to_map (λ (z : Entry). z.asset) p.entries y e there ∙ ap Some (sym (one-number p kept d.asset e.asset g numbered also)))

-- two bundles with one entry are the same
pub one-bundle : (p : Project) (plan : Plan) → IsKept p → IsShared p plan → (b c : ℕ) (g : Guid) → HasEntry p plan b g → HasEntry p plan c g → b ≡ c
one-bundle p plan kept shared b c g (x, (bundle, at, here), entry) (y, (other, there, also), same) =
    let one = one-entry p kept x y g entry same in
    shared.one b c y (bundle, at, subst (Contains bundle.entries) one here) (other, there, also)
