-- Internal names are put in order one bundle after another.
use Rattle.std.proofs.Common.{◌≡◌, ◌<◌, ◌+◌, ℕ, List, [], length, get_or, take, refl, sym, ap, ◌∙◌}
use Rattle.std.proofs.lemmas.List.Sums.{fold_more}
use Rattle.addr_base.specs.declared.ids.Digest.{Digest}
use Rattle.addr_cab.specs.Outside.{with_home}
use Rattle.addr_layout.specs.declared.model.RefHome.TheVariants.{Bundle}
use Rattle.addr_pack.specs.declared.bundles.Plan.{Plan}
use Rattle.addr_images.specs.within.Outside.{names_told}
use Rattle.addr_images.specs.within.Told.{home_told}

pub names-none : (plan : Plan) → names_told plan [] ≡ []
unfolding names_told
names-none plan = refl

pub names-more : (plan : Plan) (direct : List ℕ) (i : ℕ) (old new : List Digest) → i < length direct → old ≡ names_told plan (take i direct) → new ≡ with_home old (home_told plan (Bundle (get_or direct i 0)))
    → new ≡ names_told plan (take (i + 1) direct)
unfolding names_told
names-more plan direct i old new within is grown =
    grown ∙ (ap (λ names. with_home names (home_told plan (Bundle (get_or direct i 0)))) is ∙ sym (fold_more (λ names c. with_home names (home_told plan (Bundle c))) [] direct i 0 within))
