-- Bytes that are read as rows, or as a script, have no first bad line.
use Rattle.std.proofs.Common.{ℕ, List, Ok, Err}
use Rattle.addr_fields.specs.Lines.{lines_of}
use Rattle.addr_locate.specs.PlainRows.{ReadsRows}
use Rattle.addr_locate.specs.Rows.{Rows}
use Rattle.addr_locate.specs.declared.error.RowsErr.TheVariants.{Line as RowsLine}
use Rattle.addr_locate.proofs.PlainLaws.{bad_no_plain}
use Rattle.addr_script.specs.Scripts.{ReadsScript, Script}
use Rattle.addr_script.specs.declared.command.Grammar.TheVariants.{Simulate}
use Rattle.addr_script.specs.declared.error.ScriptErr.TheVariants.{Line as ScriptLine}
use Rattle.addr_script.proofs.ScriptLaws.{bad_no_script}

pub script_read_once : (bytes : List ℕ) (script : Script) (n : ℕ) → ReadsScript Simulate bytes (Ok script) → ReadsScript Simulate bytes (Err (ScriptLine n)) → ⊥
script_read_once bytes script n is bad = bad_no_script Simulate (lines_of bytes) n script bad is

pub rows_read_once : (bytes : List ℕ) (rows : Rows) (n : ℕ) → ReadsRows bytes (Ok rows) → ReadsRows bytes (Err (RowsLine n)) → ⊥
rows_read_once bytes rows n is bad = bad_no_plain (lines_of bytes) n bad (is.0, is.1, is.2)
