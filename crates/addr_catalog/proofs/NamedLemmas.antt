-- No fault of a catalogue is want of memory.
use Rattle.std.proofs.Common.{◌≡◌, ◌≢◌, ℕ, ◌+◌, List, [], ◌∷◌, Option, Some, None, Result, Ok, Err, refl, ap}
use Rattle.addr_base.specs.declared.ids.BundleNo.{BundleNo}
use Rattle.addr_catalog_json.proofs.NamedLaws.{document_named}
use Rattle.addr_catalog_json.specs.Document.{document_read}
use Rattle.addr_catalog_json.specs.declared.document.Lists.{Lists}
use Rattle.addr_catalog_json.specs.declared.error.DocErr.{DocErr}
use Rattle.addr_catalog_json.specs.declared.error.DocErr.TheVariants as document
use Rattle.addr_catalog_json.specs.declared.options.BundleOptions.{BundleOptions}
use Rattle.addr_locate.specs.Rows.{text_at}
use Rattle.addr_tables.specs.Faults.{rows_read}
use Rattle.addr_tables.specs.declared.error.TableErr.{TableErr}
use Rattle.addr_tables.specs.declared.error.TableErr.TheVariants as tables
use Rattle.addr_tables.specs.declared.rows.EntryRow.{EntryRow}
use Rattle.addr_tables.specs.declared.rows.Rows.{Rows}
use Rattle.addr_reading.specs.Gives.{IsNamed}
use Rattle.addr_reading.proofs.StepLaws.{ok_named, err_named, then_named}
use Rattle.addr_catalog.specs.Catalogue.{locator_read, catalogue_read}
use Rattle.addr_catalog.specs.Entries.{row_or_fault, row_in_role, bundle_read, asset_with, asset_unless, asset_read, options_of, role_of, numbers_from, number_at, bundle_lists, dependencies}
use Rattle.addr_catalog.specs.FaultsBelow.{of_document, of_documents, of_table, of_tables}
use Rattle.addr_catalog.specs.Steps.{read_each}
use Rattle.addr_catalog.specs.Tables.{tables_of}
use Rattle.addr_catalog.specs.declared.error.CatErr.{CatErr}
use Rattle.addr_catalog.specs.declared.error.CatErr.TheVariants.{Provider, Options, Depends, NoMemory}
use Rattle.addr_catalog.specs.declared.roles.Role.{Role}
use Rattle.addr_catalog.specs.declared.roles.Role.TheVariants.{Bundle, Asset}
use Rattle.addr_tables.proofs.NamedLemmas.{rows_named}

not_provider : (entry : ℕ) → Provider entry ≢ NoMemory
not_provider entry same = absurd cc

not_options : (entry : ℕ) → Options entry ≢ NoMemory
not_options entry same = absurd cc

not_depends : (entry : ℕ) → Depends entry ≢ NoMemory
not_depends entry same = absurd cc

-- ---- steps

each_named : {A B : Type 0} (read : ℕ → A → Result B CatErr) → ((n : ℕ) (x : A) → IsNamed NoMemory (read n x)) → (place : ℕ) (xs : List A) → IsNamed NoMemory (read_each read place xs)
unfolding read_each
each_named read one place [] = ok_named NoMemory _
each_named read one place (x ∷ xs) = then_named NoMemory _ _ (one place x) (λ first. then_named NoMemory _ _ (each_named read one (place + 1) xs) (λ rest. ok_named NoMemory _))

-- ---- the crates below

document_memory : (e : DocErr) → of_document e ≡ NoMemory → e ≡ document.NoMemory
document_memory document.NoMemory same = refl
document_memory document.Json same = absurd cc
document_memory (document.Member which) same = absurd cc

documents_named : {A : Type 0} (r : Result A DocErr) → IsNamed document.NoMemory r → IsNamed NoMemory (of_documents r)
documents_named (Ok x) named = ok_named NoMemory _
documents_named (Err e) named = err_named NoMemory _ (λ same. named (ap Err (document_memory e same)))

table_memory : (e : TableErr) → of_table e ≡ NoMemory → e ≡ tables.NoMemory
table_memory tables.NoMemory same = refl
table_memory (tables.Base64 which) same = absurd cc
table_memory (tables.Short which) same = absurd cc
table_memory (tables.Counts keys buckets) same = absurd cc
table_memory (tables.Index entry field) same = absurd cc
table_memory (tables.Key bucket) same = absurd cc
table_memory (tables.Trailing which) same = absurd cc
table_memory (tables.Place bucket) same = absurd cc
table_memory (tables.Extra entry) same = absurd cc

tables_named : {A : Type 0} (r : Result A TableErr) → IsNamed tables.NoMemory r → IsNamed NoMemory (of_tables r)
tables_named (Ok x) named = ok_named NoMemory _
tables_named (Err e) named = err_named NoMemory _ (λ same. named (ap Err (table_memory e same)))

-- ---- entries

options_named : (lists : Lists) (rows : Rows) (place : ℕ) (e : EntryRow) (options : Option BundleOptions) → IsNamed NoMemory (row_or_fault lists rows place e options)
options_named lists rows place e (Some options) = ok_named NoMemory _
options_named lists rows place e None = err_named NoMemory _ (not_options place)

role_named : (lists : Lists) (rows : Rows) (place : ℕ) (e : EntryRow) (role : Option Role) → IsNamed NoMemory (row_in_role lists rows place e role)
role_named lists rows place e (Some Bundle) = options_named lists rows place e (options_of e.extra)
role_named lists rows place e (Some Asset) = ok_named NoMemory _
role_named lists rows place e None = err_named NoMemory _ (not_provider place)

bundle_named : (lists : Lists) (rows : Rows) (place : ℕ) (e : EntryRow) → IsNamed NoMemory (bundle_read lists rows place e)
unfolding bundle_read
bundle_named lists rows place e = role_named lists rows place e (role_of (text_at lists.providers e.provider))

deps_named : (lists : Lists) (rows : Rows) (place : ℕ) (e : EntryRow) (deps : List BundleNo) → IsNamed NoMemory (asset_with lists rows place e deps)
deps_named lists rows place e [] = err_named NoMemory _ (not_depends place)
deps_named lists rows place e (d ∷ ds) = ok_named NoMemory _

number_named : (lists : Lists) (rows : Rows) (numbers : List (Option BundleNo)) (place : ℕ) (e : EntryRow) (number : Option BundleNo) → IsNamed NoMemory (asset_unless lists rows numbers place e number)
number_named lists rows numbers place e (Some number) = ok_named NoMemory _
number_named lists rows numbers place e None = deps_named lists rows place e (dependencies (bundle_lists rows numbers) e.dep)

asset_named : (lists : Lists) (rows : Rows) (numbers : List (Option BundleNo)) (place : ℕ) (e : EntryRow) → IsNamed NoMemory (asset_read lists rows numbers place e)
unfolding asset_read
asset_named lists rows numbers place e = number_named lists rows numbers place e (number_at numbers place)

locator_named : (lists : Lists) (rows : Rows) → IsNamed NoMemory (locator_read lists rows)
unfolding locator_read
locator_named lists rows =
    then_named NoMemory _ _ (each_named (bundle_read lists rows) (bundle_named lists rows) 0 rows.entries) (λ bundles. then_named NoMemory _ _ (each_named (asset_read lists rows (numbers_from 0 bundles)) (asset_named lists rows (numbers_from 0 bundles)) 0 rows.entries) (λ assets. ok_named NoMemory _))

pub catalogue_named : (bytes : List ℕ) → IsNamed NoMemory (catalogue_read bytes)
unfolding catalogue_read
catalogue_named bytes =
    then_named NoMemory _ _ (documents_named (document_read bytes) (document_named bytes)) (λ document. then_named NoMemory _ _ (tables_named (rows_read (tables_of document.lists document.strings)) (rows_named (tables_of document.lists document.strings))) (λ rows. then_named NoMemory _ _ (locator_named document.lists rows) (λ locator. ok_named NoMemory _)))
