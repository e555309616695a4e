-- Files that are put one after the other: what is put later counts first, and no earlier moment changes.
use Rattle.std.proofs.Common.{◌≡◌, ◌≢◌, ℕ, Bool, true, false, cond, List, [], ◌∷◌, ◌++◌, Option, Some, None, Result, Ok, Err, All, zero, suc, arith, refl, sym, ap, subst, ◌∙◌, inl, inr, reverse}
use Rattle.std.proofs.lemmas.List.{reverse-append}
use Rattle.std.proofs.lemmas.List.Folds.{find-append}
use Rattle.std.proofs.lemmas.Slice.Eq.{bytes_eq-Decides}
use Rattle.std.specs.List.{find}
use Rattle.std.specs.Option.{option_map, option_or}
use Rattle.std.specs.Str.{bytes_eq}
use Rattle.addr_base.specs.Files.{IsPut, IsPutOrSame, Puts, PutsAt, file_at}
use Rattle.addr_base.specs.Memory.{laid, before_each, store_of}
use Rattle.addr_base.specs.declared.depot.DepotErr.{DepotErr}
use Rattle.addr_base.specs.declared.files.MemFile.{MemFile}

-- whether a file has the name
abbrev pub has_name : List ℕ → MemFile → Bool
has_name name file = bytes_eq file.name name

same_name : (name : List ℕ) → bytes_eq name name ≡ true
same_name name = (bytes_eq-Decides name name).1 refl

other_name : (name other : List ℕ) → other ≢ name → bytes_eq name other ≡ false
other_name name other differ = by_test (bytes_eq name other) refl
  where
    by_test : (t : Bool) → bytes_eq name other ≡ t → bytes_eq name other ≡ false
    by_test true equal = absurd (differ (sym ((bytes_eq-Decides name other).0 equal)))
    by_test false differs = differs

-- a file that stands before all others is put
pub put_first : (name bytes : List ℕ) (files : List MemFile) → IsPut name bytes files (record { name = name; bytes = bytes } ∷ files)
put_first name bytes files = (
  ap (λ t. option_map (λ f. f.bytes) (cond t (Some (record { name = name; bytes = bytes })) (find (has_name name) files))) (same_name name),
  λ other differ. ap (λ t. option_map (λ f. f.bytes) (cond t (Some (record { name = name; bytes = bytes })) (find (has_name other) files))) (other_name name other differ),
)

pub laid_more : (files puts : List MemFile) (file : MemFile) → laid files (puts ++ file ∷ []) ≡ file ∷ laid files puts
laid_more files [] file = refl
laid_more files (put ∷ puts) file = laid_more (put ∷ files) puts file

pub before_more : (files puts : List MemFile) (file : MemFile) → before_each files (puts ++ file ∷ []) ≡ before_each files puts ++ (laid files puts ∷ [])
before_more files [] file = refl
before_more files (put ∷ puts) file = ap (λ moments. files ∷ moments) (before_more (put ∷ files) puts file)

-- a file is looked for among those that were put, the last first, and then among the first ones
or_either : (first : Option MemFile) (t : Bool) (put : MemFile) (later : Option MemFile)
    → option_or first (cond t (Some put) later) ≡ option_or (option_or first (cond t (Some put) None)) later
or_either (Some file) t put later = refl
or_either None true put later = refl
or_either None false put later = refl

found_laid : (p : MemFile → Bool) (files puts : List MemFile) → find p (laid files puts) ≡ option_or (find p (reverse puts)) (find p files)
found_laid p files [] = refl
found_laid p files (put ∷ puts) =
    found_laid p (put ∷ files) puts ∙ or_either (find p (reverse puts)) (p put) put (find p files)
    ∙ ap (λ first. option_or first (find p files)) (sym (find-append p (reverse puts) (put ∷ [])) ∙ ap (find p) (sym (reverse-append (put ∷ []) puts)))

map_or : (first later : Option MemFile) → option_map (λ f. f.bytes) (option_or first later) ≡ option_or (option_map (λ f. f.bytes) first) (option_map (λ f. f.bytes) later)
map_or (Some file) later = refl
map_or None later = refl

pub file_laid : (name : List ℕ) (files puts : List MemFile) → file_at name (laid files puts) ≡ option_or (file_at name (reverse puts)) (file_at name files)
file_laid name files puts = ap (option_map (λ f. f.bytes)) (found_laid (has_name name) files puts) ∙ map_or (find (has_name name) (reverse puts)) (find (has_name name) files)

-- what a put leaves, with and without effect
pub laid_put : (name bytes : List ℕ) (first puts first' puts' : List MemFile) → first' ≡ first → puts' ≡ puts ++ record { name = name; bytes = bytes } ∷ []
    → IsPut name bytes (laid first puts) (laid first' puts')
laid_put name bytes first puts first' puts' same e =
    subst (IsPut name bytes (laid first puts)) (sym (ap (λ files. laid files puts') same ∙ ap (laid first) e ∙ laid_more first puts (record { name = name; bytes = bytes }))) (put_first name bytes (laid first puts))

puts_either : {T : Type 0} (name bytes : List ℕ) (old new : List MemFile) (result : Result T DepotErr) → IsPut name bytes old new → Puts name bytes old new result
puts_either name bytes old new (Ok done) put = put
puts_either name bytes old new (Err fault) put = inl put

all_one : {X : Type 0} (P : X → Type 0) (x : X) → P x → All P (x ∷ [])
all_one P x holds zero d within = holds
all_one P x holds (suc k) d within = absurd (omega arith)

pub put_done : {T : Type 0} (name bytes : List ℕ) (first puts first' puts' : List MemFile) (faults now : ℕ) (result : Result T DepotErr)
    → first' ≡ first → puts' ≡ puts ++ record { name = name; bytes = bytes } ∷ [] → PutsAt name bytes (store_of first puts faults) (store_of first' puts' now) result
put_done name bytes first puts first' puts' faults now result same e = record {
  files = puts_either name bytes (laid first puts) (laid first' puts') result (laid_put name bytes first puts first' puts' same e);
  passed = laid first puts ∷ [];
  past = ap (λ files. before_each files puts') same ∙ ap (before_each first) e ∙ before_more first puts (record { name = name; bytes = bytes });
  each = all_one (IsPutOrSame name bytes (laid first puts)) (laid first puts) (inr (λ other. refl));
}
