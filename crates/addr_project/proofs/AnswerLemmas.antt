-- A folder has one answer, since both a project and a fault are the value of one function.
use Rattle.std.proofs.Common.{◌≡◌, ℕ, List, Result, Ok, Err, ◌⊎◌, inl, inr, refl}
use Rattle.addr_base.specs.declared.files.MemFile.{MemFile}
use Rattle.addr_project.specs.declared.error.ProjectErr.{ProjectErr}
use Rattle.addr_project.specs.Laws.{HasOneAnswer}
use Rattle.addr_project.specs.Model.{Project}
use Rattle.addr_project.proofs.NeverLemmas.{folder_never}
use Rattle.addr_project.specs.Reading.{reply_of_folder}

some_answer : (answer : Result Project ProjectErr) → ((p : Project) × (answer ≡ Ok p)) ⊎ ((fault : ProjectErr) × (answer ≡ Err fault))
some_answer (Ok p) = inl (p, refl)
some_answer (Err fault) = inr (fault, refl)

ok_or_err : (answer : Result Project ProjectErr) (p : Project) (fault : ProjectErr) → answer ≡ Ok p → answer ≡ Err fault → ⊥
ok_or_err answer p fault good bad = cc

one_ok : (answer : Result Project ProjectErr) (p q : Project) → answer ≡ Ok p → answer ≡ Ok q → p ≡ q
one_ok answer p q first second = cc

one_err : (answer : Result Project ProjectErr) (e f : ProjectErr) → answer ≡ Err e → answer ≡ Err f → e ≡ f
one_err answer e f first second = cc

pub one_answer : (files : List MemFile) (folder : List ℕ) → HasOneAnswer files folder
one_answer files folder =
    let answer = reply_of_folder files folder in
    record {
      some = some_answer answer;
      never_both = ok_or_err answer;
      one_project = one_ok answer;
      one_fault = one_err answer;
      never_memory = (folder_never files folder).0;
      never_depot = (folder_never files folder).1;
    }
