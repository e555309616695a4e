-- Rows whose numbers are all below a bound, and the test for it.
use Rattle.std.proofs.Common.{◌≡◌, ℕ, ◌<◌, ◌↔◌, Bool, true, nat_lt, List, get_or}
use Rattle.std.proofs.lemmas.Bool.{ltb-true, lt-ltb}
use Rattle.std.proofs.lemmas.List.Elements.{All-contains}
use Rattle.std.proofs.lemmas.List.Sums.{AllPass-from_list_all, list_all-from_AllPass}
use Rattle.std.proofs.lemmas.Option.{slice_get-get_or}
use Rattle.std.proofs.lemmas.List.Elements.{Contains-get_or}
use Rattle.std.specs.List.{list_all}
use Rattle.addr_walks.specs.Rows.{Edge, AreBelow}
use Rattle.addr_walks.proofs.Lists.{Contains-slice_get}

abbrev pub row_below : ℕ → List ℕ → Bool
row_below n row = list_all (λ c. nat_lt c n) row

pub below-tested : (rows : List (List ℕ)) (n : ℕ) → (list_all (λ row. row_below n row) rows ≡ true) ↔ AreBelow rows n
below-tested rows n = (to, from)
  where
    each : list_all (λ row. row_below n row) rows ≡ true → (b c : ℕ) → Edge rows b c → c < n
    each passes b c (row, at, here) =
        let whole = All-contains (λ r. row_below n r ≡ true) rows row (AllPass-from_list_all (row_below n) rows passes) (Contains-slice_get rows b row at) in
        ltb-true c n (All-contains (λ d. nat_lt d n ≡ true) row c (AllPass-from_list_all (λ d. nat_lt d n) row whole) here)

    to : list_all (λ row. row_below n row) rows ≡ true → AreBelow rows n
    to passes = record { each = λ b c edge. each passes b c edge }

    from : AreBelow rows n → list_all (λ row. row_below n row) rows ≡ true
    from below = list_all-from_AllPass (row_below n) rows (λ b row inside. list_all-from_AllPass (λ d. nat_lt d n) (get_or rows b row)
        (λ k c within. lt-ltb (get_or (get_or rows b row) k c) n (below.each b (get_or (get_or rows b row) k c)
        (get_or rows b row, slice_get-get_or rows b row inside, Contains-get_or (get_or rows b row) k c within))))
