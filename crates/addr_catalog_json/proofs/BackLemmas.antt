-- What is written for a document, and for the options of a bundle, reads back as them.
use Rattle.std.proofs.Common.{◌≡◌, ℕ, ◌≤◌, false, List, [], ◌∷◌, length, Option, Some, None, Ok, refl, sym, ap, ◌∙◌, arith}
use Rattle.std.specs.Str.{IsUtf8}
use Rattle.hex.specs.Hex.{lower_digits}
use Rattle.hex.proofs.HexLemmas.{length-encode_with}
use Rattle.serde_json.specs.Data.{Data, string, depth}
use Rattle.serde_json.specs.Read.{read, max_depth}
use Rattle.serde_json.specs.Written.{has_float}
use Rattle.addr_base.specs.Ids.{Are16Bytes, hex_of}
use Rattle.addr_base.specs.declared.ids.Digest.{Digest}
use Rattle.addr_catalog_json.specs.declared.document.Document.{Document}
use Rattle.addr_catalog_json.specs.declared.document.Lists.{Lists}
use Rattle.addr_catalog_json.specs.declared.document.Strings.{Strings}
use Rattle.addr_catalog_json.specs.declared.error.DocErr.TheVariants.{Json}
use Rattle.addr_catalog_json.specs.declared.options.BundleOptions.{BundleOptions}
use Rattle.addr_reading.specs.Steps.{◌>>=◌, or_fault}
use Rattle.addr_json.specs.Members.{list_of, digest_in}
use Rattle.addr_json.specs.Trees.{digest_tree}
use Rattle.addr_json.proofs.BackLemmas.{all_back, texts_back, shallow_items, plain_items}
use Rattle.addr_json.proofs.DigitLemmas.{digest_back}
use Rattle.addr_json.proofs.TreeLemmas.{tree_good}
use Rattle.addr_catalog_json.specs.Document.{kind_of, strings_read, members_read, document_read}
use Rattle.addr_catalog_json.specs.Members.{hash_of}
use Rattle.addr_catalog_json.specs.Options.{options_from, options_in, options_read}
use Rattle.addr_catalog_json.specs.within.Put.{IsWellStated}
use Rattle.addr_catalog_json.specs.Written.{kind_tree, kinds_tree, document_tree, options_tree}

-- ---- digests

hash_back : (digest : Digest) → Are16Bytes digest.0 → hash_of (digest_tree digest) ≡ Some digest
hash_back digest sixteen = by_text (hex_of digest.0) refl
  where
    by_text : (text : List ℕ) → hex_of digest.0 ≡ text → hash_of (string text) ≡ Some digest
    by_text [] is = absurd (let long = length-encode_with lower_digits digest.0 in omega (arith, long, ap length is, sixteen.sixteen))
    by_text (x ∷ xs) is = ap (λ (t : List ℕ). digest_in (string t)) (sym is) ∙ digest_back digest sixteen

-- ---- lists

kinds_back : (kinds : List (List ℕ)) → list_of kind_of (kinds_tree kinds) ≡ Some kinds
kinds_back kinds = all_back kind_of kind_tree (λ x. refl) kinds

-- ---- the document

parts_back : (l : Lists) (strings : Strings) (state : Option Digest) → IsWellStated state → members_read (document_tree (record { lists = l; strings = strings; state = state })) ≡ Ok (record { lists = l; strings = strings; state = state })
unfolding members_read strings_read
parts_back l strings None sixteen = rw (texts_back l.providers, texts_back l.internals, kinds_back l.kinds, texts_back l.prefixes)
parts_back l strings (Some digest) sixteen = rw (texts_back l.providers, texts_back l.internals, kinds_back l.kinds, texts_back l.prefixes, digest_back digest sixteen)

pub members_back : (d : Document) → IsWellStated d.state → members_read (document_tree d) ≡ Ok d
members_back d sixteen = parts_back d.lists d.strings d.state sixteen

pub document_back : (bytes : List ℕ) (d : Document) → IsWellStated d.state → IsUtf8 bytes → read bytes ≡ Some (document_tree d) → document_read bytes ≡ Ok d
unfolding document_read
document_back bytes d sixteen utf8 is = ap (λ (t : Option Data). or_fault Json t >>= members_read) (tree_good bytes (document_tree d) utf8 is) ∙ members_back d sixteen

-- ---- the options

pub options_back : (text : List ℕ) (o : BundleOptions) → Are16Bytes o.digest.0 → read text ≡ Some (options_tree o) → options_read text ≡ Some o
unfolding options_read options_in
options_back text o sixteen is = rw is (ap (λ (h : Option Digest). options_from h (Some o.name) (Some o.size)) (hash_back o.digest sixteen))

-- ---- no value nests deep, and none has a float

pub document_plain : (d : Document) → has_float (document_tree d) ≡ false
document_plain d = by_state d.state d.lists d.strings
  where
    by_state : (state : Option Digest) (l : Lists) (strings : Strings) → has_float (document_tree (record { lists = l; strings = strings; state = state })) ≡ false
    by_state None l strings = rw (plain_items string (λ x. refl) l.prefixes, plain_items string (λ x. refl) l.internals, plain_items string (λ x. refl) l.providers, plain_items kind_tree (λ x. refl) l.kinds)
    by_state (Some digest) l strings = rw (plain_items string (λ x. refl) l.prefixes, plain_items string (λ x. refl) l.internals, plain_items string (λ x. refl) l.providers, plain_items kind_tree (λ x. refl) l.kinds)

pub document_shallow : (d : Document) → depth (document_tree d) ≤ max_depth
document_shallow d = by_state d.state d.lists d.strings
  where
    by_state : (state : Option Digest) (l : Lists) (strings : Strings) → depth (document_tree (record { lists = l; strings = strings; state = state })) ≤ max_depth
    by_state None l strings =
        let a = shallow_items string 0 (λ x. omega arith) l.prefixes in
        let b = shallow_items string 0 (λ x. omega arith) l.internals in
        let e = shallow_items string 0 (λ x. omega arith) l.providers in
        let f = shallow_items kind_tree 1 (λ x. omega arith) l.kinds in
        omega arith
    by_state (Some digest) l strings =
        let a = shallow_items string 0 (λ x. omega arith) l.prefixes in
        let b = shallow_items string 0 (λ x. omega arith) l.internals in
        let e = shallow_items string 0 (λ x. omega arith) l.providers in
        let f = shallow_items kind_tree 1 (λ x. omega arith) l.kinds in
        omega arith

pub options_shallow : (o : BundleOptions) → depth (options_tree o) ≤ max_depth
options_shallow o = omega arith
