-- A reading has one answer.
use Rattle.std.proofs.Common.{◌≡◌, ℕ, List, Option, Some, Result, Ok, Err, refl, ap, ap₂, subst, sym, ◌∙◌, ◌⊎◌, inl, inr, arith}
use Rattle.std.specs.List.{slice_get}
use Rattle.std.specs.Cmp.{IsTotalOrder}
use Rattle.std.proofs.lemmas.Cmp.{on_total, nat_list_cmp_total}
use Rattle.addr_base.specs.Images.{Object}
use Rattle.addr_base.specs.declared.ids.BundleNo.{BundleNo}
use Rattle.addr_base.specs.declared.ids.OpId.{OpId}
use Rattle.addr_base.specs.declared.ids.RowNo.{RowNo}
use Rattle.addr_base.proofs.HexLemmas.{spelled_decodes, decoded_same}
use Rattle.addr_locate.specs.Rows.{Rows}
use Rattle.addr_locate.specs.declared.rows.AssetRow.{AssetRow}
use Rattle.addr_walks.proofs.Lists.{one-list}
use Rattle.addr_history.specs.declared.event.Event.{Event}
use Rattle.addr_history.specs.declared.reading.Item2.{Item2}
use Rattle.addr_history.specs.declared.reading.Place.{Place}
use Rattle.addr_history.specs.declared.reading.ReadErr.{ReadErr}
use Rattle.addr_history.specs.declared.reading.ReadErr.TheVariants.{NoHandle, NoAsset, Pending, Failed, Absent, NoMemory}
use Rattle.addr_history.specs.Counts.{needs_of_op}
use Rattle.addr_history.specs.Reading.{Holds, MayRead, Reads, Spells, row_reply}
use Rattle.addr_history.specs.Unfolding.{IsLeastMiss, IsMissedIn, IsStart, IsUnfolding, ReadsAll, Taken, item_cmp}

same_some : {A : Type 0} (x y : A) → Some x ≡ Some y → x ≡ y
same_some x y same = cc same

-- what was read, and a refusal, as answers
abbrev read_as : {A : Type 0} → A → Result A ReadErr
read_as x = Ok x

abbrev refused_as : {A : Type 0} → ReadErr → Result A ReadErr
refused_as e = Err e

same_row : (x y : RowNo) → read_as x ≡ read_as y → x ≡ y
same_row x y same = cc same

same_error : (e f : ReadErr) → refused_as {A = RowNo} e ≡ refused_as {A = RowNo} f → e ≡ f
same_error e f same = cc same

-- a text spells one GUID
pub one_spelled : (id x y : List ℕ) → Spells id x → Spells id y → x ≡ y
one_spelled id x y first second = decoded_same id x y (spelled_decodes id x first.0 first.1) second.0 second.1

pub item_total : IsTotalOrder item_cmp
item_total = on_total (λ (i : Item2). i.guid.0) nat_list_cmp_total

same_bundle : (b c : BundleNo) → b.0 ≡ c.0 → b ≡ c
same_bundle b c same = λ i. record { 0 = same i }

-- what an answer is: a refusal that looks at no image, something read, or a bundle that misses something
abbrev Three : {A : Type 0} → (Result A ReadErr → Type 0) → Result RowNo ReadErr → Result A ReadErr → Type 0
Three {A} Is reply r = ((e : ReadErr) × (r ≡ Err e) × (reply ≡ Err e)) ⊎ (((x : A) × (r ≡ Ok x) × Is (Ok x)) ⊎ ((b : BundleNo) × (r ≡ Err (Absent b)) × Is (Err (Absent b))))

module _ {A : Type 0} (Is : Result A ReadErr → Type 0) (reply : Result RowNo ReadErr)
    (read_row : (x : A) → Is (Ok x) → (row : RowNo) × (reply ≡ Ok row))
    (absent_row : (b : BundleNo) → Is (Err (Absent b)) → (row : RowNo) × (reply ≡ Ok row))
    (one_read : (x y : A) → Is (Ok x) → Is (Ok y) → x ≡ y)
    (one_absent : (b c : BundleNo) → Is (Err (Absent b)) → Is (Err (Absent c)) → b ≡ c)
    (apart : (x : A) (b : BundleNo) → Is (Ok x) → Is (Err (Absent b)) → ⊥) where
  clash : (e : ReadErr) → reply ≡ Err e → (row : RowNo) × (reply ≡ Ok row) → ⊥
  clash e refused (row, ready) = cc (sym refused ∙ ready)

  one_of_three : (r s : Result A ReadErr) → Three Is reply r → Three Is reply s → r ≡ s
  one_of_three r s (inl (e, r-is, refused)) (inl (f, s-is, also)) = r-is ∙ ap (refused_as {A = A}) (same_error e f (sym refused ∙ also)) ∙ sym s-is
  one_of_three r s (inl (e, r-is, refused)) (inr (inl (y, s-is, is))) = absurd (clash e refused (read_row y is))
  one_of_three r s (inl (e, r-is, refused)) (inr (inr (b, s-is, is))) = absurd (clash e refused (absent_row b is))
  one_of_three r s (inr (inl (x, r-is, is))) (inl (f, s-is, also)) = absurd (clash f also (read_row x is))
  one_of_three r s (inr (inl (x, r-is, is))) (inr (inl (y, s-is, too))) = r-is ∙ ap (read_as {A = A}) (one_read x y is too) ∙ sym s-is
  one_of_three r s (inr (inl (x, r-is, is))) (inr (inr (b, s-is, too))) = absurd (apart x b is too)
  one_of_three r s (inr (inr (b, r-is, is))) (inl (f, s-is, also)) = absurd (clash f also (absent_row b is))
  one_of_three r s (inr (inr (b, r-is, is))) (inr (inl (y, s-is, too))) = absurd (apart y b too is)
  one_of_three r s (inr (inr (b, r-is, is))) (inr (inr (c, s-is, too))) = r-is ∙ ap (λ (z : BundleNo). refused_as {A = A} (Absent z)) (one_absent b c is too) ∙ sym s-is

module _ (objects : BundleNo → List ℕ → Option Object) (rows : Rows) (h : List Event) (op : OpId) (i : ℕ) where
  -- an operation's row that may be read is one asset row with one first dependency
  one_asset : (a a' : AssetRow) (b b' : BundleNo) → MayRead rows h op i a b → MayRead rows h op i a' b' → (a ≡ a') × (b ≡ b')
  one_asset a a' b b' may also =
      let row : may.row ≡ also.row = same_row may.row also.row (sym may.ready ∙ also.ready) in
      let asset : a ≡ a' = same_some a a' (sym may.is ∙ (ap (λ (r : RowNo). slice_get rows.assets r.0) row ∙ also.is)) in
      (asset, same_some b b' (sym may.first ∙ (ap (λ (x : AssetRow). slice_get x.deps 0) asset ∙ also.first)))

  -- ---- reading alone

  reads_three : (r : Result (List ℕ) ReadErr) → Reads objects rows h op i r → Three (Reads objects rows h op i) (row_reply rows h op i) r
  reads_three (Ok bytes) is = inr (inl (bytes, refl, is))
  reads_three (Err (Absent b)) is = inr (inr (b, refl, is))
  reads_three (Err NoHandle) is = inl (NoHandle, refl, is)
  reads_three (Err NoAsset) is = inl (NoAsset, refl, is)
  reads_three (Err Pending) is = inl (Pending, refl, is)
  reads_three (Err (Failed b cause)) is = inl (Failed b cause, refl, is)
  reads_three (Err NoMemory) is = absurd is

  held_same : (b b' : BundleNo) (a a' : AssetRow) (o o' : Object) → (a ≡ a') × (b ≡ b') → Holds objects b a.id o → Holds objects b' a'.id o' → o ≡ o'
  held_same b b' a a' o o' (asset, home) (guid, spells, at) (guid', spells', at') =
      let same : guid ≡ guid' = one_spelled a.id guid guid' spells (subst (λ (x : AssetRow). Spells x.id guid') (sym asset) spells') in
      same_some o o' (sym at ∙ (ap₂ objects home same ∙ at'))

  pub one_reading : (r s : Result (List ℕ) ReadErr) → Reads objects rows h op i r → Reads objects rows h op i s → r ≡ s
  one_reading r s first second = one_of_three (Reads objects rows h op i) (row_reply rows h op i)
      (λ bytes is. (is.2.row, is.2.ready))
      (λ b is. (is.1.row, is.1.ready))
      (λ x y is too. is.5 ∙ (ap (λ (o : Object). o.bytes) (held_same is.1 too.1 is.0 too.0 is.3 too.3 (one_asset is.0 too.0 is.1 too.1 is.2 too.2) is.4 too.4) ∙ sym too.5))
      (λ b c is too. (one_asset is.0 too.0 b c is.1 too.1).1)
      (λ bytes b is too. (let same = one_asset is.0 too.0 is.1 b is.2 too.1 in too.2 is.3 (subst (λ (c : BundleNo). Holds objects c too.0.id is.3) same.1 (subst (λ (x : AssetRow). Holds objects is.1 x.id is.3) same.0 is.4))))
      r s (reads_three r first) (reads_three s second)

  -- ---- reading with all that is led to

  all_three : (r : Result (List Item2) ReadErr) → ReadsAll objects rows h op i r → Three (ReadsAll objects rows h op i) (row_reply rows h op i) r
  all_three (Ok items) is = inr (inl (items, refl, is))
  all_three (Err (Absent b)) is = inr (inr (b, refl, is))
  all_three (Err NoHandle) is = inl (NoHandle, refl, is)
  all_three (Err NoAsset) is = inl (NoAsset, refl, is)
  all_three (Err Pending) is = inl (Pending, refl, is)
  all_three (Err (Failed b cause)) is = inl (Failed b cause, refl, is)
  all_three (Err NoMemory) is = absurd is

  abbrev needs : List BundleNo
  needs = needs_of_op rows h op

  one_start : (a : AssetRow) (home : BundleNo) (s t : Place) → IsStart a home s → IsStart a home t → s ≡ t
  one_start a home s t (spells, at) (spells', at') =
      let guid : s.guid.0 ≡ t.guid.0 = one_spelled a.id s.guid.0 t.guid.0 spells spells' in
      let bundle : s.bundle ≡ t.bundle = at ∙ sym at' in
      λ k. record { guid = record { 0 = guid k }; bundle = bundle k }

  start_of : (a a' : AssetRow) (b b' : BundleNo) (s : Place) → (a ≡ a') × (b ≡ b') → IsStart a b s → IsStart a' b' s
  start_of a a' b b' s (asset, home) is = subst (λ (c : BundleNo). IsStart a' c s) home (subst (λ (x : AssetRow). IsStart x b s) asset is)

  missed_of : (a a' : AssetRow) (b b' c : BundleNo) → (a ≡ a') × (b ≡ b') → IsMissedIn objects rows.bundles needs a b c → IsMissedIn objects rows.bundles needs a' b' c
  missed_of a a' b b' c (asset, home) is = subst (λ (d : BundleNo). IsMissedIn objects rows.bundles needs a' d c) home (subst (λ (x : AssetRow). IsMissedIn objects rows.bundles needs x b c) asset is)

  least_of : (s t : Place) (b c : BundleNo) → s ≡ t → IsLeastMiss objects rows.bundles needs s b → IsLeastMiss objects rows.bundles needs t c → b ≡ c
  least_of s t b c same is too =
      let is' = subst (λ (x : Place). IsLeastMiss objects rows.bundles needs x b) same is in
      let up = is'.1 too.0.0 too.0.1 too.0.2 in
      let down = too.1 is'.0.0 is'.0.1 is'.0.2 in
      let here = is'.0.3 in
      let there = too.0.3 in
      same_bundle b c (omega (arith, up, down, here, there))

  one_missed : (a : AssetRow) (home b c : BundleNo) → IsMissedIn objects rows.bundles needs a home b → IsMissedIn objects rows.bundles needs a home c → b ≡ c
  one_missed a home b c (inl (none, is)) (inl (nor, also)) = is ∙ sym also
  one_missed a home b c (inl (none, is)) (inr (start, begins, least)) = absurd (none start.guid.0 begins.0)
  one_missed a home b c (inr (start, begins, least)) (inl (nor, also)) = absurd (nor start.guid.0 begins.0)
  one_missed a home b c (inr (start, begins, least)) (inr (start', begins', least')) = least_of start start' b c (one_start a home start start' begins begins') least least'

  not_missed : (a : AssetRow) (home b : BundleNo) (start : Place) (items : List Item2) → IsStart a home start → IsUnfolding objects rows.bundles needs start items → IsMissedIn objects rows.bundles needs a home b → ⊥
  not_missed a home b start items begins is (inl (none, own)) = none start.guid.0 begins.0
  not_missed a home b start items begins is (inr (start', begins', least)) =
      let least' = subst (λ (x : Place). IsLeastMiss objects rows.bundles needs x b) (one_start a home start' start begins' begins) least in
      is.whole least'.0.0 least'.0.1 least'.0.2

  one_unfolding : (a : AssetRow) (home : BundleNo) (s t : Place) (x y : List Item2) → IsStart a home s → IsStart a home t → IsUnfolding objects rows.bundles needs s x → IsUnfolding objects rows.bundles needs t y → x ≡ y
  one_unfolding a home s t x y begins too is also =
      one-list item_total (Taken objects rows.bundles needs t) x y (subst (λ (p : Place). IsUnfolding objects rows.bundles needs p x) (one_start a home s t begins too) is).lists also.lists

  pub one_reading_of_all : (r s : Result (List Item2) ReadErr) → ReadsAll objects rows h op i r → ReadsAll objects rows h op i s → r ≡ s
  one_reading_of_all r s first second = one_of_three (ReadsAll objects rows h op i) (row_reply rows h op i)
      (λ items is. (is.2.row, is.2.ready))
      (λ b is. (is.2.row, is.2.ready))
      (λ x y is too. (let same = one_asset is.0 too.0 is.1 too.1 is.2 too.2 in one_unfolding too.0 too.1 is.3 too.3 x y (start_of is.0 too.0 is.1 too.1 is.3 same is.4) too.4 is.5 too.5))
      (λ b c is too. (let same = one_asset is.0 too.0 is.1 too.1 is.2 too.2 in one_missed too.0 too.1 b c (missed_of is.0 too.0 is.1 too.1 b same is.3) too.3))
      (λ items b is too. (let same = one_asset is.0 too.0 is.1 too.1 is.2 too.2 in not_missed too.0 too.1 b is.3 items (start_of is.0 too.0 is.1 too.1 is.3 same is.4) is.5 too.3))
      r s (all_three r first) (all_three s second)
