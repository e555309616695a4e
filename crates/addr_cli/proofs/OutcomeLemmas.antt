-- What a run ends with, from what its command ends with; and that sound files leave it only its text or want of memory.
use Rattle.std.proofs.Common.{◌≡◌, ◌≢◌, ◌∙◌, sym, ap, subst, refl, codes, if◌then◌else◌, ℕ, List, [], ◌∷◌, Option, Some, None, IfSome, Result, Ok, Err, ◌⊎◌, inl, inr, arith}
use Rattle.addr_base.specs.Faults.{Rose}
use Rattle.addr_base.specs.Files.{Store, file_at}
use Rattle.addr_base.specs.declared.files.MemFile.{MemFile}
use Rattle.addr_unityfs.specs.Faults.{bundle_read}
use Rattle.addr_project.specs.Model.{Project}
use Rattle.addr_project.specs.Reading.{ProjectOf}
use Rattle.addr_project.specs.declared.limit.Limit.{Limit}
use Rattle.addr_project.specs.declared.limit.Limit.TheVariants as limit
use Rattle.std.specs.Str.{bytes_eq}
use Rattle.addr_catalog.specs.Catalogue.{catalogue_read}
use Rattle.addr_catalog.specs.declared.catalogue.Catalogue.{Catalogue}
use Rattle.addr_locate.specs.PlainRows.{ReadsRows}
use Rattle.addr_locate.specs.Rows.{Rows}
use Rattle.addr_locate.specs.declared.error.RowsErr.TheVariants.{Line as RowsLine}
use Rattle.addr_script.specs.Scripts.{ReadsScript, Script}
use Rattle.addr_script.specs.declared.command.Grammar.TheVariants.{Simulate}
use Rattle.addr_script.specs.declared.error.ScriptErr.TheVariants.{Line as ScriptLine}
use Rattle.addr_base.specs.Streams.{Stream}
use Rattle.addr_cli.specs.Outcome.{EndsWith, Ends, Simulates, ShowsRows, Inspects, Plans, Planned, IsPlannable, RunsTo, HasCauses, IsReady, IsSound, IsComplete, HasCatalogue, HasPlainRows, HasRows, HasScript, IsBadCatalogue, IsBadPlain}
use Rattle.addr_cli.specs.Refusals.{ended_status, refusal_status}
use Rattle.addr_cli.specs.Words.{Command, simulate, list_rows, inspect, plan, AsksFor, words_of}
use Rattle.addr_cli.specs.declared.refusal.Refusal.{Refusal}
use Rattle.addr_cli.specs.declared.refusal.Refusal.TheVariants.{NoMemory, Usage, Depot, BadProject, NoFile, BadCatalogue, BadRows, BadBundle, BadScript, TooLarge}
use Rattle.addr_cli.proofs.OnceLemmas.{rows_read_once, script_read_once}

no_file : (name : List ℕ) (files : List MemFile) (bytes : List ℕ) → file_at name files ≡ Some bytes → file_at name files ≡ None → ⊥
no_file name files bytes there none = let same : Some bytes ≡ None = sym there ∙ none in absurd (cc same)

-- the bytes of a file are one text
one_text : (name : List ℕ) (files : List MemFile) (bytes other : List ℕ) → file_at name files ≡ Some bytes → file_at name files ≡ Some other → other ≡ bytes
one_text name files bytes other here there = let same : Some bytes ≡ Some other = sym here ∙ there in cc same

-- a file that is a catalogue is no bad one
no_fault : (files : List MemFile) (name : List ℕ) (c : Catalogue) (n : ℕ) → HasCatalogue files name c → IsBadCatalogue files name n → ⊥
no_fault files name c n has bad =
    let R : List ℕ → Type 0 = λ b. catalogue_read b ≡ Err bad.2 in
    let read = sym has.read ∙ subst R (one_text name files has.bytes bad.0 has.file bad.1) bad.3 in
    absurd (cc read)

-- a file in the plain form has no bad line
no_bad_line : (files : List MemFile) (name : List ℕ) (r : Rows) (n : ℕ) → HasPlainRows files name r → IsBadPlain files name n → ⊥
no_bad_line files name r n has bad =
    let P : List ℕ → Type 0 = λ b. ReadsRows b (Err (RowsLine n)) in
    rows_read_once has.bytes r n has.read (subst P (one_text name files has.bytes bad.0 has.file bad.1) bad.2)

-- a file of rows is there
there : (files : List MemFile) (name : List ℕ) (r : Rows) → HasRows files name r → file_at name files ≡ None → ⊥
there files name r has none = elim has [
  | inl catalogue ↦ no_file name files catalogue.2.bytes catalogue.2.file none
  | inr plain ↦ no_file name files plain.1.bytes plain.1.file none
]

-- sound files leave `simulate` only its text
sound_text : (files : List MemFile) (rows script : List ℕ) (ended : Result (List ℕ) Refusal) → (r : Rows) → HasRows files rows r → (s : Script) → HasScript files script s → Simulates files rows script ended → ended_status ended ≡ 0
sound_text files rows script (Ok text) r has_rows s has_script simulates = refl
sound_text files rows script (Err (NoFile token)) r has_rows s has_script simulates = elim simulates [ inl none ↦ absurd (there files rows r has_rows none.0) | inr none ↦ absurd (no_file script files has_script.bytes has_script.file none.2) ]
sound_text files rows script (Err (BadCatalogue n)) r has_rows s has_script simulates = elim has_rows [
  | inl catalogue ↦ absurd (no_fault files rows catalogue.1 n catalogue.2 simulates.1)
  | inr plain ↦ absurd (plain.0 simulates.0)
]
sound_text files rows script (Err (BadRows n)) r has_rows s has_script simulates = elim has_rows [
  | inl catalogue ↦ absurd (simulates.0 catalogue.0)
  | inr plain ↦ absurd (no_bad_line files rows r n plain.1 simulates.1)
]
sound_text files rows script (Err (BadScript n)) r has_rows s has_script simulates =
    let P : List ℕ → Type 0 = λ b. ReadsScript Simulate b (Err (ScriptLine n)) in
    absurd (script_read_once has_script.bytes s n has_script.read (subst P (one_text script files has_script.bytes simulates.2 has_script.file simulates.3) simulates.4))
sound_text files rows script (Err (BadBundle token n)) r has_rows s has_script simulates = absurd simulates
sound_text files rows script (Err (BadProject fault)) r has_rows s has_script simulates = absurd simulates
sound_text files rows script (Err (TooLarge which n)) r has_rows s has_script simulates = absurd simulates
sound_text files rows script (Err NoMemory) r has_rows s has_script simulates = absurd simulates
sound_text files rows script (Err Usage) r has_rows s has_script simulates = absurd simulates
sound_text files rows script (Err Depot) r has_rows s has_script simulates = absurd simulates

sound_rows : (files : List MemFile) (rows script : List ℕ) (ended : Result (List ℕ) Refusal) → IsReady (simulate rows script) files → Simulates files rows script ended → ended_status ended ≡ 0
sound_rows files rows script ended ready ends = sound_text files rows script ended ready.0 ready.1 ready.2 ready.3 ends

-- a catalogue leaves `rows` only its text
sound_catalogue : (files : List MemFile) (file : List ℕ) (ended : Result (List ℕ) Refusal) → IsReady (list_rows file) files → ShowsRows files file ended → ended_status ended ≡ 0
sound_catalogue files file (Ok text) sound ends = refl
sound_catalogue files file (Err (NoFile token)) sound ends = absurd (no_file file files sound.1.bytes sound.1.file ends.0)
sound_catalogue files file (Err (BadCatalogue n)) sound ends = absurd (no_fault files file sound.0 n sound.1 ends)
sound_catalogue files file (Err NoMemory) sound ends = absurd ends
sound_catalogue files file (Err Usage) sound ends = absurd ends
sound_catalogue files file (Err Depot) sound ends = absurd ends
sound_catalogue files file (Err (BadRows n)) sound ends = absurd ends
sound_catalogue files file (Err (BadScript n)) sound ends = absurd ends
sound_catalogue files file (Err (BadBundle token n)) sound ends = absurd ends
sound_catalogue files file (Err (BadProject fault)) sound ends = absurd ends
sound_catalogue files file (Err (TooLarge which n)) sound ends = absurd ends

-- a bundle file leaves `inspect` only its text
sound_bundle : (files : List MemFile) (file : List ℕ) (ended : Result (List ℕ) Refusal) → IsReady (inspect file) files → Inspects files file ended → ended_status ended ≡ 0
sound_bundle files file (Ok other) sound ends = refl
sound_bundle files file (Err (NoFile token)) sound ends = absurd (no_file file files sound.0 sound.1 ends.0)
sound_bundle files file (Err (BadBundle token number)) sound ends =
    let R : List ℕ → Type 0 = λ b. bundle_read b ≡ Err ends.2 in
    let read = sym sound.3.read ∙ subst R (one_text file files sound.0 ends.0 sound.1 ends.1) ends.3 in
    absurd (cc read)
sound_bundle files file (Err NoMemory) sound ends = absurd ends
sound_bundle files file (Err Usage) sound ends = absurd ends
sound_bundle files file (Err Depot) sound ends = absurd ends
sound_bundle files file (Err (BadCatalogue n)) sound ends = absurd ends
sound_bundle files file (Err (BadRows n)) sound ends = absurd ends
sound_bundle files file (Err (BadScript n)) sound ends = absurd ends
sound_bundle files file (Err (BadProject fault)) sound ends = absurd ends
sound_bundle files file (Err (TooLarge which n)) sound ends = absurd ends

one_project : (files : List MemFile) (folder : List ℕ) (p q : Project) → ProjectOf files folder p → ProjectOf files folder q → p ≡ q
one_project files folder p q here there = let same = sym here ∙ there in cc same

-- a project within its limits passes none of them
no_limit : (files : List MemFile) (folder : List ℕ) (sound : IsPlannable files folder) (which : Limit) (n : ℕ) → Planned sound.project (Err (TooLarge which n)) → ⊥
no_limit files folder sound limit.BundleName n ends = sound.names ends.0 n ends.1.0
no_limit files folder sound limit.Members n ends = let within = sound.members ends.1 n ends.2 ends.3 in omega (arith, within, ends.4)
no_limit files folder sound limit.Deps n ends = let within = sound.deps ends.1 n ends.2 ends.6 in omega (arith, within, ends.7)
no_limit files folder sound limit.Variables n ends = ends
no_limit files folder sound limit.Groups n ends = ends
no_limit files folder sound limit.Assets n ends = ends
no_limit files folder sound limit.Entries n ends = ends
no_limit files folder sound limit.Labels n ends = ends
no_limit files folder sound limit.Refs n ends = ends
no_limit files folder sound limit.AllRefs n ends = ends
no_limit files folder sound limit.Expanded n ends = ends
no_limit files folder sound limit.AssetBytes n ends = ends
no_limit files folder sound limit.AllBytes n ends = ends
no_limit files folder sound limit.BundleBytes n ends = ends

-- a project within its limits leaves `plan` only its text
sound_project : (files : List MemFile) (folder : List ℕ) (ended : Result (List ℕ) Refusal) → IsReady (plan folder) files → Plans files folder ended → ended_status ended ≡ 0
sound_project files folder (Ok text) sound ends = refl
sound_project files folder (Err (BadProject fault)) sound ends = let same = sym sound.read ∙ ends in absurd (cc same)
sound_project files folder (Err (TooLarge which n)) sound ends =
    let P : Project → Type 0 = λ p. Planned p (Err (TooLarge which n)) in
    absurd (no_limit files folder sound which n (subst P (one_project files folder ends.0 sound.project ends.1 sound.read) ends.2))
sound_project files folder (Err NoMemory) sound ends = absurd ends
sound_project files folder (Err Usage) sound ends = absurd ends
sound_project files folder (Err Depot) sound ends = absurd ends
sound_project files folder (Err (NoFile token)) sound ends = absurd ends
sound_project files folder (Err (BadCatalogue n)) sound ends = absurd ends
sound_project files folder (Err (BadRows n)) sound ends = absurd ends
sound_project files folder (Err (BadBundle token n)) sound ends = absurd ends
sound_project files folder (Err (BadScript n)) sound ends = absurd ends

-- a command that has all that it needs ends with a text
one_end : (c : Command) (files : List MemFile) (ended : Result (List ℕ) Refusal) → IsReady c files → Ends c files ended → ended_status ended ≡ 0
one_end (simulate rows script) files ended ready ends = sound_rows files rows script ended ready ends
one_end (list_rows file) files ended ready ends = sound_catalogue files file ended ready ends
one_end (inspect file) files ended ready ends = sound_bundle files file ended ready ends
one_end (plan folder) files ended ready ends = sound_project files folder ended ready ends

-- the command that words ask for
asked : List (List ℕ) → Option Command
asked (word ∷ rows ∷ script ∷ []) = Some (simulate rows script)
asked (word ∷ file ∷ []) = if bytes_eq word (codes "rows") then Some (list_rows file) else if bytes_eq word (codes "inspect") then Some (inspect file) else Some (plan file)
asked _ = None

asked_one : (c : Command) → asked (words_of c) ≡ Some c
unfolding asked
asked_one (simulate rows script) = refl
asked_one (list_rows file) = refl
asked_one (inspect file) = refl
asked_one (plan folder) = refl

-- words ask for one command
same_command : (words : List (List ℕ)) (c d : Command) → AsksFor words c → AsksFor words d → c ≡ d
same_command words c d asks asks' = let same : Some c ≡ Some d = sym (asked_one c) ∙ ap asked (sym asks ∙ asks') ∙ asked_one d in cc same

through : (words : List (List ℕ)) (files : List MemFile) (depot : Store) (ended : Result (List ℕ) Refusal) → depot.files ≡ Some files → IsSound words files → (c : Command) → AsksFor words c → IfSome depot.files (λ known. Ends c known ended) → ended_status ended ≡ 0
through words files depot ended told sound c asks ends =
    let here : Ends c files ended = rw told at ends in
    let E : Command → Type 0 = λ d. Ends d files ended in
    one_end sound.command files ended sound.ready (subst E (same_command words c sound.command asks sound.asked) here)

sound_end : (words : List (List ℕ)) (files : List MemFile) (depot depot' : Store) (ended : Result (List ℕ) Refusal) → depot.files ≡ Some files → IsSound words files → (Rose depot.faults depot'.faults → ⊥) → EndsWith words depot depot' ended → (ended_status ended ≡ 0) ⊎ (ended_status ended ≡ 1)
sound_end words files depot depot' (Err NoMemory) told sound steady ends = inr refl
sound_end words files depot depot' (Err Usage) told sound steady ends = absurd (ends.0 (sound.command, sound.asked))
sound_end words files depot depot' (Err Depot) told sound steady ends = absurd (steady ends.2)
sound_end words files depot depot' (Ok text) told sound steady ends = inl refl
sound_end words files depot depot' (Err (NoFile token)) told sound steady ends = inl (through words files depot (Err (NoFile token)) told sound ends.0 ends.1 ends.2)
sound_end words files depot depot' (Err (BadCatalogue n)) told sound steady ends = inl (through words files depot (Err (BadCatalogue n)) told sound ends.0 ends.1 ends.2)
sound_end words files depot depot' (Err (BadRows n)) told sound steady ends = inl (through words files depot (Err (BadRows n)) told sound ends.0 ends.1 ends.2)
sound_end words files depot depot' (Err (BadBundle token n)) told sound steady ends = inl (through words files depot (Err (BadBundle token n)) told sound ends.0 ends.1 ends.2)
sound_end words files depot depot' (Err (BadProject fault)) told sound steady ends = inl (through words files depot (Err (BadProject fault)) told sound ends.0 ends.1 ends.2)
sound_end words files depot depot' (Err (TooLarge which n)) told sound steady ends = inl (through words files depot (Err (TooLarge which n)) told sound ends.0 ends.1 ends.2)
sound_end words files depot depot' (Err (BadScript n)) told sound steady ends = inl (through words files depot (Err (BadScript n)) told sound ends.0 ends.1 ends.2)

-- over sound files a run ends with status 0 or 1, unless a count of faults rose
pub complete : (words : List (List ℕ)) (depot depot' : Store) (out out' : Stream) (status : ℕ) → RunsTo words depot depot' out out' status → IsComplete words depot depot' out out' status
complete words depot depot' out out' status runs = by_files depot.files refl where
  by_files : (told : Option (List MemFile)) → depot.files ≡ told → IfSome told (λ files. IsSound words files → (Rose depot.faults depot'.faults → ⊥) → (Rose out.faults out'.faults → ⊥) → (status ≡ 0) ⊎ (status ≡ 1))
  by_files None e = tt
  by_files (Some files) e = λ sound steady still. elim runs.2 [
    | inl printed ↦ elim (sound_end words files depot depot' runs.0 e sound steady runs.1) [ inl done ↦ inl (printed.0 ∙ done) | inr memory ↦ inr (printed.0 ∙ memory) ]
    | inr cut ↦ absurd (still cut.1)
  ]

-- a status that isn't the sink's is the end's
rose_at : (words : List (List ℕ)) (depot depot' : Store) (ended : Result (List ℕ) Refusal) → EndsWith words depot depot' ended → ended_status ended ≡ 3 → Rose depot.faults depot'.faults
rose_at words depot depot' (Err Depot) ends e = ends.2
rose_at words depot depot' (Err NoMemory) ends e = absurd (omega (arith, e))
rose_at words depot depot' (Err Usage) ends e = absurd (omega (arith, e))
rose_at words depot depot' (Ok text) ends e = absurd (omega (arith, e))
rose_at words depot depot' (Err (NoFile token)) ends e = absurd (omega (arith, e))
rose_at words depot depot' (Err (BadCatalogue n)) ends e = absurd (omega (arith, e))
rose_at words depot depot' (Err (BadRows n)) ends e = absurd (omega (arith, e))
rose_at words depot depot' (Err (BadBundle token n)) ends e = absurd (omega (arith, e))
rose_at words depot depot' (Err (BadProject fault)) ends e = absurd (omega (arith, e))
rose_at words depot depot' (Err (TooLarge which n)) ends e = absurd (omega (arith, e))
rose_at words depot depot' (Err (BadScript n)) ends e = absurd (omega (arith, e))

kept_at : (words : List (List ℕ)) (depot depot' : Store) (ended : Result (List ℕ) Refusal) → EndsWith words depot depot' ended → ended_status ended ≢ 1 → ended_status ended ≢ 3 → depot'.faults ≡ depot.faults
kept_at words depot depot' (Err Depot) ends memory fault = absurd (fault refl)
kept_at words depot depot' (Err NoMemory) ends memory fault = absurd (memory refl)
kept_at words depot depot' (Err Usage) ends memory fault = ends.1
kept_at words depot depot' (Ok text) ends memory fault = ends.3
kept_at words depot depot' (Err (NoFile token)) ends memory fault = ends.3
kept_at words depot depot' (Err (BadCatalogue n)) ends memory fault = ends.3
kept_at words depot depot' (Err (BadRows n)) ends memory fault = ends.3
kept_at words depot depot' (Err (BadBundle token n)) ends memory fault = ends.3
kept_at words depot depot' (Err (BadProject fault)) ends memory other = ends.3
kept_at words depot depot' (Err (TooLarge which n)) ends memory fault = ends.3
kept_at words depot depot' (Err (BadScript n)) ends memory fault = ends.3

not_sink : (refusal : Refusal) → refusal_status refusal ≢ 13
not_sink NoMemory e = omega (arith, e)
not_sink Usage e = omega (arith, e)
not_sink Depot e = omega (arith, e)
not_sink (BadProject fault) e = omega (arith, e)
not_sink (NoFile token) e = omega (arith, e)
not_sink (BadCatalogue n) e = omega (arith, e)
not_sink (BadRows n) e = omega (arith, e)
not_sink (BadBundle token n) e = omega (arith, e)
not_sink (BadScript n) e = omega (arith, e)
not_sink (TooLarge which n) e = omega (arith, e)

end_not_sink : (ended : Result (List ℕ) Refusal) → ended_status ended ≢ 13
end_not_sink (Ok text) e = omega (arith, e)
end_not_sink (Err refusal) e = not_sink refusal e

-- the causes of a run's status
pub causes : (words : List (List ℕ)) (depot depot' : Store) (out out' : Stream) (status : ℕ) → RunsTo words depot depot' out out' status → HasCauses depot depot' out out' status
causes words depot depot' out out' status runs = record {
  depot_rose = λ e. elim runs.2 [
    | inl printed ↦ rose_at words depot depot' runs.0 runs.1 (sym printed.0 ∙ e)
    | inr cut ↦ absurd (omega (arith, cut.0, e))
  ];
  depot_kept = λ memory fault sink. elim runs.2 [
    | inl printed ↦ kept_at words depot depot' runs.0 runs.1 (λ e. memory (printed.0 ∙ e)) (λ e. fault (printed.0 ∙ e))
    | inr cut ↦ absurd (sink cut.0)
  ];
  sink_rose = λ e. elim runs.2 [
    | inl printed ↦ absurd (end_not_sink runs.0 (sym printed.0 ∙ e))
    | inr cut ↦ cut.1
  ];
  sink_kept = λ sink. elim runs.2 [
    | inl printed ↦ printed.1
    | inr cut ↦ absurd (sink cut.0)
  ];
}
