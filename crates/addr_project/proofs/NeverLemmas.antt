-- The tests of a folder never answer want of memory or a fault of the depot.
use Rattle.std.proofs.Common.{◌≡◌, ℕ, nat_lt, Bool, true, false, cond, List, [], ◌∷◌, ◌++◌, length, map, Option, Some, None, Result, Ok, Err, refl, subst}
use Rattle.std.specs.Option.{option_or, option_map, is_none}
use Rattle.std.specs.Prelude.{codes, ◌+◌}
use Rattle.std.specs.List.{sum}
use Rattle.toml.specs.Data.{Members}
use Rattle.addr_base.specs.declared.files.MemFile.{MemFile}
use Rattle.addr_base.specs.declared.ids.Guid.{Guid}
use Rattle.addr_base.specs.declared.var.Var.{Var}
use Rattle.addr_base.specs.Files.{file_at}
use Rattle.addr_expansion.specs.declared.error.ExpandErr.{ExpandErr}
use Rattle.addr_expansion.specs.declared.error.ExpandErr.TheVariants as expanding
use Rattle.addr_project.specs.declared.error.ProjectErr.{ProjectErr}
use Rattle.addr_project.specs.declared.error.ProjectErr.TheVariants.{NoMemory, DepotFault, BadField, OverLimit, DuplicateGuid, DuplicateGroup, ReservedGroup, UnknownGroup, UnknownRef, BadVariable, VariableCycle, MissingFile}
use Rattle.addr_project.specs.declared.limit.Limit.{Limit}
use Rattle.addr_project.specs.declared.limit.Limit.TheVariants as limit
use Rattle.addr_project.specs.declared.limit.Part.{Part}
use Rattle.addr_project.specs.declared.limit.Part.TheVariants as part
use Rattle.addr_project.specs.declared.model.Group.{Group}
use Rattle.addr_project.specs.declared.rows.AssetRow.{AssetRow}
use Rattle.addr_project.specs.declared.rows.EntryRow.{EntryRow}
use Rattle.addr_project.specs.declared.rows.ProjectFile.{ProjectFile}
use Rattle.addr_project.specs.Faults.{passes, over_labels, over_refs, total_refs, unless_some, too_long, tree_fault, head_fault, row_fault, file_fault, count_fault, key_fault, link_fault, text_fault}
use Rattle.addr_project.specs.Model.{Project}
use Rattle.addr_project.specs.Reading.{size_answer, length_of, asset_fault, bytes_of, path, tree_of, reply_of_file, reply_after, reply_of_tree, reply_of_bytes, reply_of_folder, unless_fault}
use Rattle.addr_project.specs.Limits.{most}
use Rattle.addr_project.specs.Rows.{file_of, version_of, profile_of, profile_text, profile, rows_at}
use Rattle.addr_project_rows.specs.Firsts.{first_of, first_from}

-- a fault that a test tells
abbrev pub IsTold : ProjectErr → Type 0
IsTold NoMemory = ⊥
IsTold DepotFault = ⊥
IsTold e = Unit {0}

abbrev pub Told : Option ProjectErr → Type 0
Told o = (e : ProjectErr) → o ≡ Some e → IsTold e

none : Told None
none = λ e is. absurd (cc)

some : (fault : ProjectErr) → IsTold fault → Told (Some fault)
some fault told = λ e is. (let same : fault ≡ e = cc in subst IsTold same told)

either : (a b : Option ProjectErr) → Told a → Told b → Told (option_or a b)
either None b first second = second
either (Some x) b first second = first

mapped : (fault : ℕ → ProjectErr) → ((n : ℕ) → IsTold (fault n)) → (o : Option ℕ) → Told (option_map fault o)
mapped fault told None = none
mapped fault told (Some n) = some (fault n) (told n)

tested : (b : Bool) (fault : ProjectErr) → IsTold fault → Told (cond b (Some fault) None)
tested true fault told = some fault told
tested false fault told = none

firsts : {A : Type 0} (answer : A → Option ProjectErr) → ((x : A) → Told (answer x)) → (xs : List A) → Told (first_of answer xs)
firsts answer told [] = none
firsts answer told (x ∷ xs) = either (answer x) (first_of answer xs) (told x) (firsts answer told xs)

firsts_from : {A : Type 0} (answer : List A → A → Option ProjectErr) → ((before : List A) (x : A) → Told (answer before x)) → (before xs : List A) → Told (first_from answer before xs)
unfolding first_from
firsts_from answer told before [] = none
firsts_from answer told before (x ∷ xs) = either (answer before x) (first_from answer (before ++ x ∷ []) xs) (told before x) (firsts_from answer told (before ++ x ∷ []) xs)

long : (r : Result (List ℕ) ExpandErr) → Told (too_long r)
long (Ok t) = none
long (Err expanding.BadVariable) = none
long (Err expanding.Cycle) = none
long (Err (expanding.TooLong n)) = some (OverLimit limit.Expanded n) tt
long (Err expanding.NoMemory) = none

passes_told : (which : Limit) (n : ℕ) → Told (passes which n)
passes_told which n = tested (nat_lt (most which) n) (OverLimit which n) tt

unless_told : {A : Type 0} (p : Part) (value : Option A) → Told (unless_some p value)
unless_told p value = tested (is_none value) (BadField p 0) tt

head_told : (tree : Members) → Told (head_fault tree)
unfolding head_fault
head_told tree =
    either _ _ (unless_told part.Project (version_of tree)) (either _ _ (unless_told part.Project (profile_of tree)) (either _ _ (unless_told part.Project (rows_at (codes "variable") tree))
    (either _ _ (unless_told part.Project (rows_at (codes "group") tree)) (either _ _ (unless_told part.Project (rows_at (codes "asset") tree)) (either _ _ (unless_told part.Project (rows_at (codes "entry") tree))
    (either _ _ (unless_told part.Profile (profile_text (codes "local") (profile tree))) (either _ _ (unless_told part.Profile (profile_text (codes "remote") (profile tree))) none)))))))

row_told : (tree : Members) → Told (row_fault tree)
unfolding row_fault
row_told tree =
    either _ _ (mapped (BadField part.Variable) (λ n. tt) _) (either _ _ (mapped (BadField part.Group) (λ n. tt) _)
    (either _ _ (mapped (BadField part.Asset) (λ n. tt) _) (either _ _ (mapped (BadField part.Entry) (λ n. tt) _) none)))

count_told : (variables : List Var) (groups : List Group) (refs : List (List Guid)) (labels : List (List (List ℕ))) → Told (count_fault variables groups refs labels)
unfolding count_fault
count_told variables groups refs labels =
    either _ _ (passes_told limit.Variables (length variables)) (either _ _ (passes_told limit.Groups (length groups)) (either _ _ (passes_told limit.Assets (length refs)) (either _ _ (passes_told limit.Entries (length labels))
    (either _ _ (firsts over_labels (λ ls. passes_told limit.Labels (length ls)) labels) (either _ _ (firsts over_refs (λ gs. passes_told limit.Refs (length gs)) refs)
    (either _ _ (passes_told limit.AllRefs (total_refs refs)) none))))))

key_told : (groups : List Group) (assets : List AssetRow) (entries : List EntryRow) → Told (key_fault groups assets entries)
unfolding key_fault
key_told groups assets entries =
    either _ _ (mapped (DuplicateGuid part.Asset) (λ n. tt) _) (either _ _ (mapped (DuplicateGuid part.Entry) (λ n. tt) _)
    (either _ _ (mapped DuplicateGroup (λ n. tt) _) (either _ _ (mapped ReservedGroup (λ n. tt) _) none)))

link_told : (names guids : List (List ℕ)) (assets : List AssetRow) (entries : List EntryRow) → Told (link_fault names guids assets entries)
unfolding link_fault
link_told names guids assets entries =
    either _ _ (mapped UnknownGroup (λ n. tt) _) (either _ _ (mapped (UnknownRef part.Asset) (λ n. tt) _)
    (either _ _ (mapped (UnknownRef part.Entry) (λ n. tt) _) none))

text_told : (local remote : Result (List ℕ) ExpandErr) (values : List (Result (List ℕ) ExpandErr)) → Told (text_fault local remote values)
unfolding text_fault
text_told local remote values =
    either _ _ (tested _ (BadVariable part.Profile 0) tt) (either _ _ (mapped (BadVariable part.Variable) (λ n. tt) _)
    (either _ _ (mapped VariableCycle (λ n. tt) _)
    (either _ _ (long local) (either _ _ (long remote) (either _ _ (firsts too_long long values) none)))))

file_told : (f : ProjectFile) → Told (file_fault f)
unfolding file_fault
file_told f =
    either _ _ (count_told f.variables f.groups _ _) (either _ _ (either _ _ (key_told f.groups f.assets f.entries) (link_told _ _ f.assets f.entries)) (either _ _ (text_told _ _ _) none))

tree_told : (tree : Members) → Told (tree_fault tree)
unfolding tree_fault
tree_told tree = either _ _ (either _ _ (head_told tree) (row_told tree)) (file_told (file_of tree))

pub tree_never : (tree : Members) → tree_fault tree ≡ Some DepotFault → ⊥
tree_never tree is = tree_told tree DepotFault is

size_told : (before : List ℕ) (n : ℕ) → Told (size_answer before n)
size_told before n = either _ _ (passes_told limit.AssetBytes n) (passes_told limit.AllBytes (sum before + n))

asset_told : (contents : List (Option (List ℕ))) → Told (asset_fault contents)
unfolding asset_fault
asset_told contents = either _ _ (mapped MissingFile (λ n. tt) _) (firsts_from size_answer size_told [] (map length_of contents))

-- an answer's fault is one that a test tells
abbrev pub AnswerTold : Result Project ProjectErr → Type 0
AnswerTold (Ok p) = Unit {0}
AnswerTold (Err e) = IsTold e

unless_fault_told : (o : Option ProjectErr) (p : Project) → Told o → AnswerTold (unless_fault o p)
unless_fault_told None p told = tt
unless_fault_told (Some e) p told = told e refl

after_told : (o : Option ProjectErr) (reply : Result Project ProjectErr) → Told o → AnswerTold reply → AnswerTold (reply_after o reply)
after_told None reply told rest = rest
after_told (Some e) reply told rest = told e refl

file_reply_told : (files : List MemFile) (folder : List ℕ) (f : ProjectFile) → AnswerTold (reply_of_file files folder f)
unfolding reply_of_file
file_reply_told files folder f = unless_fault_told _ _ (asset_told (map (bytes_of files folder) f.assets))

tree_reply_told : (files : List MemFile) (folder : List ℕ) (o : Option Members) → AnswerTold (reply_of_tree files folder o)
tree_reply_told files folder None = tt
tree_reply_told files folder (Some tree) = after_told _ _ (tree_told tree) (file_reply_told files folder (file_of tree))

bytes_reply_told : (files : List MemFile) (folder : List ℕ) (o : Option (List ℕ)) → AnswerTold (reply_of_bytes files folder o)
bytes_reply_told files folder None = tt
bytes_reply_told files folder (Some bytes) = tree_reply_told files folder (tree_of bytes)

folder_told : (files : List MemFile) (folder : List ℕ) → AnswerTold (reply_of_folder files folder)
unfolding reply_of_folder
folder_told files folder = bytes_reply_told files folder (file_at (path folder (codes "project.toml")) files)

pub folder_never : (files : List MemFile) (folder : List ℕ) → (reply_of_folder files folder ≡ Err NoMemory → ⊥) × (reply_of_folder files folder ≡ Err DepotFault → ⊥)
folder_never files folder =
    let told = folder_told files folder in
    (λ is. subst AnswerTold is told, λ is. subst AnswerTold is told)
