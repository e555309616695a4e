use Rattle.std.proofs.Common.{◌≡◌, ◌∙◌, ◌++◌, ap, subst, map, codes, string_bytes}
use Rattle.std.specs.List.{AllByRecursion}
use Rattle.addr_locate.specs.PlainRows.{IsBundleRow, asset_line, bundle_line}
use Rattle.addr_locate.specs.PlainText.{HasTexts, ended, plain_asset}
use Rattle.addr_locate.proofs.PlainTextLemmas.{text_parts, reads_alike}
use Rattle.addr_locate.proofs.plain_writer.write_rows.Goals as goal

pub returns-clause-text : goal.returns-clause-text
returns-clause-text c =
    let rows = c.args.locator.now in
    let bundles = c.in_ok-push_bundles.ensures.written ∙ ap (λ bs. string_bytes c.push_str.new.self ++ ended (map bundle_line bs)) c.bundles.ensures.rows in
    let assets = c.in_ok-push_assets.ensures.written ∙ ap (λ list. string_bytes c.push_bundles.new.text ++ ended (map asset_line (map (plain_asset rows) list))) c.assets.ensures.rows in
    let heading : string_bytes c.push_str.new.self ≡ codes "addr-rows 1\n" = c.in_ok-push_str.ensures.bytes ∙ ap (λ bytes. bytes ++ codes "addr-rows 1\n") c.new-text.ensures.bytes in
    c.from_string.ensures ∙ text_parts rows _ _ _ heading bundles assets

pub returns-clause-reads : goal.returns-clause-reads
returns-clause-reads c =
    let rows = c.args.locator.now in
    let bundles = c.in_ok-push_bundles.ensures.written ∙ ap (λ bs. string_bytes c.push_str.new.self ++ ended (map bundle_line bs)) c.bundles.ensures.rows in
    let assets = c.in_ok-push_assets.ensures.written ∙ ap (λ list. string_bytes c.push_bundles.new.text ++ ended (map asset_line (map (plain_asset rows) list))) c.assets.ensures.rows in
    let heading : string_bytes c.push_str.new.self ≡ codes "addr-rows 1\n" = c.in_ok-push_str.ensures.bytes ∙ ap (λ bytes. bytes ++ codes "addr-rows 1\n") c.new-text.ensures.bytes in
    let text = c.from_string.ensures ∙ text_parts rows _ _ _ heading bundles assets in
    let are_bundles = subst (λ bs. AllByRecursion IsBundleRow bs) c.bundles.ensures.rows c.in_ok-push_bundles.ensures.form in
    let have_texts = subst (λ list. AllByRecursion HasTexts (map (plain_asset rows) list)) c.assets.ensures.rows c.in_ok-push_assets.ensures.form in
    reads_alike rows c.from_string.result c.are_rows.ensures are_bundles have_texts text
