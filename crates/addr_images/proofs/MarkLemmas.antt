-- Marks beside the assets of entries, one entry after another.
use Rattle.std.proofs.Common.{◌≡◌, ◌<◌, ◌≤◌, ◌+◌, ℕ, ◌⊎◌, inl, inr, Bool, true, false, List, length, set, replicate, Some, sym, ap, subst, ◌∙◌, arith}
use Rattle.std.proofs.lemmas.Bool.{cases_eq, cases_lt, false≢true}
use Rattle.std.proofs.lemmas.List.{get_or-set_other, get_or-set_same, get_or-replicate, get_or_past, length-replicate}
use Rattle.std.proofs.lemmas.Option.{slice_get_within}
use Rattle.std.specs.List.{slice_get}
use Rattle.addr_layout.proofs.RankLemmas.{same-some}
use Rattle.addr_project.specs.declared.model.Entry.{Entry}
use Rattle.addr_project.specs.Model.{Project}
use Rattle.addr_images.specs.within.Stated.{AreEntryMarks, is_marked}

-- marked are the assets of the first n entries
pub record MarksTo (entries : List Entry) (n : ℕ) (marks : List Bool) : Type 0 where
  pub sound : (k : ℕ) → is_marked marks k ≡ true → (x : ℕ) × (e : Entry) × (slice_get entries x ≡ Some e) × (e.asset ≡ k)
  pub all : (x : ℕ) (e : Entry) → x < n → slice_get entries x ≡ Some e → is_marked marks e.asset ≡ true

pub marks-none : (entries : List Entry) (size : ℕ) → MarksTo entries 0 (replicate size false)
marks-none entries size = record { sound = λ k is. absurd (none k (cases_lt k size) is); all = λ x e below at. absurd (omega (arith, below)) }
  where
    none : (k : ℕ) → (k < size) ⊎ (size ≤ k) → is_marked (replicate size false) k ≡ true → ⊥
    none k (inl within) is = false≢true (sym (get_or-replicate size k false false within) ∙ is)
    none k (inr past) is = false≢true (sym (get_or_past (replicate size false) k false (simp length-replicate past)) ∙ is)

pub marks-more : (entries : List Entry) (n : ℕ) (e : Entry) (marks : List Bool) → slice_get entries n ≡ Some e → e.asset < length marks → MarksTo entries n marks → MarksTo entries (n + 1) (set marks e.asset true)
marks-more entries n e marks at within before = record {
  sound = λ k is. sound k (cases_eq k e.asset) is;
  all = λ x d below there. all x d below there (cases_eq x n);
}
  where
    here : is_marked (set marks e.asset true) e.asset ≡ true
    here = get_or-set_same marks e.asset true false within

    sound : (k : ℕ) → (k ≡ e.asset) ⊎ (k ≡ e.asset → ⊥) → is_marked (set marks e.asset true) k ≡ true → (x : ℕ) × (d : Entry) × (slice_get entries x ≡ Some d) × (d.asset ≡ k)
    sound k (inl same) is = (n, e, at, sym same)
    sound k (inr other) is = before.sound k (sym (get_or-set_other marks e.asset k true false other) ∙ is)

    stays : (k : ℕ) → (k ≡ e.asset) ⊎ (k ≡ e.asset → ⊥) → is_marked marks k ≡ true → is_marked (set marks e.asset true) k ≡ true
    stays k (inl same) is = subst (λ j. is_marked (set marks e.asset true) j ≡ true) (sym same) here
    stays k (inr other) is = get_or-set_other marks e.asset k true false other ∙ is

    all : (x : ℕ) (d : Entry) → x < n + 1 → slice_get entries x ≡ Some d → (x ≡ n) ⊎ (x ≡ n → ⊥) → is_marked (set marks e.asset true) d.asset ≡ true
    all x d below there (inl same) = (let one : d ≡ e = same-some d e (sym there ∙ (ap (slice_get entries) same ∙ at)) in subst (λ (f : Entry). is_marked (set marks e.asset true) f.asset ≡ true) (sym one) here)
    all x d below there (inr other) = stays d.asset (cases_eq d.asset e.asset) (before.all x d (smaller x n below other) there)
      where
        smaller : (x n : ℕ) → x < n + 1 → (x ≡ n → ⊥) → x < n
        smaller x n below other = omega (arith, below, other)

pub entry-marks : (p : Project) (n : ℕ) (marks : List Bool) → length p.entries ≤ n → MarksTo p.entries n marks → AreEntryMarks p marks
entry-marks p n marks past to = record { marked = λ k. (λ is. to.sound k is, λ found. subst (λ j. is_marked marks j ≡ true) found.3 (to.all found.0 found.1 (let within = slice_get_within p.entries found.0 found.1 found.2 in omega (arith, within, past)) found.2)) }
