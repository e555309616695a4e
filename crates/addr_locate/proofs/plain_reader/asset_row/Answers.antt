use Rattle.std.proofs.Common.{◌++◌, ◌∷◌, sym}
use Rattle.addr_base.specs.Tokens.{token_of}
use Rattle.addr_locate.specs.PlainRows.{deps_field, keys_field}
use Rattle.addr_locate.proofs.ElementLemmas.{deps_free}
use Rattle.addr_locate.proofs.FieldLemmas.{cut_is}
use Rattle.addr_locate.proofs.plain_reader.asset_row.Goals as goal

pub returns-in_default-4 : goal.returns-in_default-4
returns-in_default-4 c = λ a is e.
    let keys = keys_field a.keys in
    let deps = deps_field a.deps ++ 32 ∷ keys in
    let kind = token_of a.kind ++ 32 ∷ deps in
    let at_id = c.in-Some.ensures.only (token_of a.id ++ 32 ∷ kind) e in
    let id_only = rw c.in-Some-2.is at c.in_ok-id.ensures.only in
    let at_kind = id_only a.id kind (is.id, sym at_id) in
    let kind_only = rw c.in-Some-3.is at c.in_ok-kind.ensures.only in
    let at_deps = kind_only a.kind deps (is.kind, sym at_kind.1) in
    let same = cut_is 32 c.in-Some-3.rest.now c.in-Some-cut_at.deps.now c.in-Some-cut_at.keys.now (deps_field a.deps) keys c.in-Some-cut_at.ensures (deps_free c.args.count c.ranges.count.fits a.deps is.deps) (sym at_deps.1) in
    let none = rw c.in_default-4.is at c.in_ok-deps.ensures in
    none a.deps is.deps same.0

pub returns-in_default-5 : goal.returns-in_default-5
returns-in_default-5 c = λ a is e.
    let keys = keys_field a.keys in
    let deps = deps_field a.deps ++ 32 ∷ keys in
    let kind = token_of a.kind ++ 32 ∷ deps in
    let at_id = c.in-Some.ensures.only (token_of a.id ++ 32 ∷ kind) e in
    let id_only = rw c.in-Some-2.is at c.in_ok-id.ensures.only in
    let at_kind = id_only a.id kind (is.id, sym at_id) in
    let kind_only = rw c.in-Some-3.is at c.in_ok-kind.ensures.only in
    let at_deps = kind_only a.kind deps (is.kind, sym at_kind.1) in
    let same = cut_is 32 c.in-Some-3.rest.now c.in-Some-cut_at.deps.now c.in-Some-cut_at.keys.now (deps_field a.deps) keys c.in-Some-cut_at.ensures (deps_free c.args.count c.ranges.count.fits a.deps is.deps) (sym at_deps.1) in
    let none = rw c.in_default-5.is at c.in_ok-keys.ensures in
    none a.keys is.keys is.once same.1
