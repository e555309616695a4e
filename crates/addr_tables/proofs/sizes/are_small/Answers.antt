use Rattle.std.proofs.Common.{◌∙◌, ◌+◌, ◌*◌, ◌↔◌, IsTrue, sum_by, sym, ap, subst}
use Rattle.addr_tables.specs.Sizes.{key_size, bucket_size, extra_size, saturated, AreSmall}
use Rattle.addr_tables.proofs.SizeLemmas.{all_small}
use Rattle.addr_tables.proofs.sizes.are_small.Goals as goal

pub returns : goal.returns
returns c =
    let keys = c.saturating_add-keys.ensures ∙ ap (λ n. saturated (n + 4)) (c.all_keys.ensures ∙ ap (λ ks. saturated (sum_by key_size ks)) c.as_slice.ensures) in
    let buckets = c.saturating_add-buckets.ensures ∙ ap (λ n. saturated (n + 4)) (c.all_buckets.ensures ∙ ap (λ nss. saturated (sum_by bucket_size nss)) c.as_slice-2.ensures) in
    let entries = c.saturating_add-entries.ensures ∙ ap (λ n. saturated (n + 4)) (c.saturating_mul.ensures ∙ ap (λ n. saturated (n * 28)) c.len.ensures) in
    let extras = c.all_extras-extras.ensures ∙ ap (λ rows. saturated (sum_by extra_size rows)) c.as_slice-3.ensures in
    subst (λ yes. IsTrue yes ↔ AreSmall c.args.rows.now) (sym c.are_within.ensures) (all_small c.args.rows.now _ _ _ _ c.requires keys buckets entries extras)
