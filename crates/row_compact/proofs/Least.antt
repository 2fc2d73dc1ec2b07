-- Going once over the lines gives the least solution.
use Rattle.std.proofs.Common.{ℕ, zero, suc, ◌≡◌, ◌+◌, ◌*◌, ◌<◌, ◌≤◌, ◌==◌, List, [], ◌∷◌, ◌++◌, length, inl, inr, refl, sym, ap, subst, ◌∙◌, arith, All, Contains, get_or, length-append}
use Rattle.std.proofs.lemmas.Bool.{cases_Bool, cases_eq, cases_lt, eqb-true, eq-eqb}
use Rattle.std.proofs.lemmas.List.{get_or_append_left, get_or_past}
use Rattle.std.proofs.lemmas.Grind.{same_number_lists}
use Rattle.std.proofs.lemmas.List.Elements.{All-contains}
use Rattle.std.proofs.Math.Seq.{get_or-append_seam}
use Rattle.std.proofs.Math.Nat.{le-max_left, le-max_right, max-le}
use Rattle.cell_num.proofs.Lists.{contains_none, contains_cons, contains_here, contains_there, all_from_contains}
use Rattle.row_compact.specs.declared.distance.Distance.{Distance}
use Rattle.row_compact.specs.declared.distance.Distances.{Distances}
use Rattle.row_compact.specs.Solution.{x_of, IsEntry, IsKept, IsSolution, IsLeast}
use Rattle.row_compact.specs.Entries.{further, reach_from}

further_above : (xs : List ℕ) (line best : ℕ) (d : Distance) → best ≤ further xs line best d
further_above xs line best d = elim (cases_Bool (d.to == line)) [ inl e ↦ rw e (le-max_left best (x_of xs d.from + d.least)) | inr e ↦ rw e (omega arith) ]

further_holds : (xs : List ℕ) (line best : ℕ) (d : Distance) → d.to ≡ line → x_of xs d.from + d.least ≤ further xs line best d
further_holds xs line best d e = rw (eq-eqb d.to line e) (le-max_right best (x_of xs d.from + d.least))

further_most : (xs : List ℕ) (line best : ℕ) (d : Distance) (most : ℕ) → best ≤ most → (d.to ≡ line → x_of xs d.from + d.least ≤ most) → further xs line best d ≤ most
further_most xs line best d most low h = elim (cases_Bool (d.to == line)) [ inl e ↦ rw e (max-le low (h (eqb-true d.to line e))) | inr e ↦ rw e low ]

reach_above : (xs : List ℕ) (line best : ℕ) (ds : List Distance) → best ≤ reach_from xs line best ds
reach_above xs line best [] = omega arith
reach_above xs line best (d ∷ ds) = omega (arith, further_above xs line best d, reach_above xs line (further xs line best d) ds)

reach_holds : (xs : List ℕ) (line best : ℕ) (ds : List Distance) (e : Distance) → Contains ds e → e.to ≡ line → x_of xs e.from + e.least ≤ reach_from xs line best ds
reach_holds xs line best [] e there at = absurd (contains_none e there)
reach_holds xs line best (d ∷ ds) e there at =
    elim (contains_cons d ds e there) [
      | inl same ↦ omega (arith, further_holds xs line best d (ap (λ (z : Distance). z.to) same ∙ at), reach_above xs line (further xs line best d) ds, ap (λ (z : Distance). x_of xs z.from + z.least) same)
      | inr rest ↦ reach_holds xs line (further xs line best d) ds e rest at
    ]

reach_most : (xs : List ℕ) (line best : ℕ) (ds : List Distance) (most : ℕ) → best ≤ most → ((d : Distance) → Contains ds d → d.to ≡ line → x_of xs d.from + d.least ≤ most) → reach_from xs line best ds ≤ most
reach_most xs line best [] most low h = low
reach_most xs line best (d ∷ ds) most low h = reach_most xs line (further xs line best d) ds most (further_most xs line best d most low (h d (contains_here d ds))) (λ e there at. h e (contains_there d ds e there) at)

pub modest_entries : (lines : ℕ) (ds : List Distance) → All (IsEntry lines) ds → All (λ d. d.least ≤ 1000) ds
modest_entries lines ds all = all_from_contains (λ (d : Distance). d.least ≤ 1000) ds (λ d there. (All-contains (IsEntry lines) ds d all there).modest)

-- the lines so far stand as they do in the least solution
pub record IsPart (d : Distances) (xs : List ℕ) (n : ℕ) : Type 0 where
  pub some : 1 ≤ n
  pub lines : length xs ≡ n
  pub first : x_of xs 0 ≡ 8
  pub kept : (e : Distance) → Contains d.list e → e.to < n → IsKept xs e
  pub least : (other : List ℕ) → IsSolution d other → (line : ℕ) → line < n → x_of xs line ≤ x_of other line
  pub low : (line : ℕ) → x_of xs line ≤ 8 + 1000 * n

pub begun : (d : Distances) → All (IsEntry d.lines) d.list → (xs : List ℕ) → xs ≡ 8 ∷ [] → IsPart d xs 1
begun d all xs is = subst (λ ys. IsPart d ys 1) (sym is) (record {
  some = omega arith;
  lines = refl;
  first = refl;
  kept = λ e there low. let entry : IsEntry d.lines e = All-contains (IsEntry d.lines) d.list e all there in absurd (omega (arith, entry.ascends, low));
  least = least;
  low = low;
})
  where
    least : (other : List ℕ) → IsSolution d other → (line : ℕ) → line < 1 → x_of (8 ∷ []) line ≤ x_of other line
    least other s zero short = s.first
    least other s (suc line) short = absurd (omega (arith, short))

    low : (line : ℕ) → x_of (8 ∷ []) line ≤ 8 + 1000 * 1
    low zero = omega arith
    low (suc line) = omega arith

pub pushed : (d : Distances) → All (IsEntry d.lines) d.list → (xs : List ℕ) (n x : ℕ) → IsPart d xs n → x ≡ reach_from xs n 0 d.list → IsPart d (xs ++ x ∷ []) (n + 1)
pushed d all xs n x part is = record {
  some = omega arith;
  lines = length-append xs (x ∷ []) ∙ ap (λ m. m + 1) part.lines;
  first = before 0 (omega (arith, part.some)) ∙ part.first;
  kept = kept;
  least = least;
  low = low;
}
  where
    before : (line : ℕ) → line < n → x_of (xs ++ x ∷ []) line ≡ x_of xs line
    before line short = get_or_append_left xs (x ∷ []) 0 line (omega (arith, short, part.lines))

    last : x_of (xs ++ x ∷ []) n ≡ x
    last = subst (λ m. get_or (xs ++ x ∷ []) m 0 ≡ x) part.lines (get_or-append_seam xs x [] 0)

    entry : (e : Distance) → Contains d.list e → IsEntry d.lines e
    entry e there = All-contains (IsEntry d.lines) d.list e all there

    kept : (e : Distance) → Contains d.list e → e.to < n + 1 → IsKept (xs ++ x ∷ []) e
    kept e there short = elim (cases_eq e.to n) [
      | inl at ↦ omega (arith, reach_holds xs n 0 d.list e there at, is, before e.from (omega (arith, (entry e there).ascends, at)), last, ap (λ m. x_of (xs ++ x ∷ []) m) at)
      | inr other ↦
          let low' : e.to < n = omega (arith, short, other) in
          let k : IsKept xs e = part.kept e there low' in
          omega (arith, k, before e.from (omega (arith, (entry e there).ascends, low')), before e.to low')
    ]

    least : (other : List ℕ) → IsSolution d other → (line : ℕ) → line < n + 1 → x_of (xs ++ x ∷ []) line ≤ x_of other line
    least other s line short = elim (cases_lt line n) [
      | inl low' ↦ omega (arith, before line low', part.least other s line low')
      | inr high ↦
          let at : line ≡ n = omega (arith, short, high) in
          let most : reach_from xs n 0 d.list ≤ x_of other n = reach_most xs n 0 d.list (x_of other n) (omega arith) (λ e there to.
          let k : IsKept other e = All-contains (IsKept other) d.list e s.kept there in
          omega (arith, k, part.least other s e.from (omega (arith, (entry e there).ascends, to)), ap (λ m. x_of other m) to)) in
          omega (arith, most, is, last, ap (λ m. x_of (xs ++ x ∷ []) m) at, ap (λ m. x_of other m) at)
    ]

    low : (line : ℕ) → x_of (xs ++ x ∷ []) line ≤ 8 + 1000 * (n + 1)
    low line = elim (cases_lt line n) [
      | inl low' ↦ omega (arith, before line low', part.low line)
      | inr high ↦ elim (cases_eq line n) [
        | inl at ↦
            let most : reach_from xs n 0 d.list ≤ 8 + 1000 * (n + 1) = reach_most xs n 0 d.list (8 + 1000 * (n + 1)) (omega arith) (λ e there to. omega (arith, part.low e.from, (entry e there).modest)) in
            omega (arith, most, is, last, ap (λ m. x_of (xs ++ x ∷ []) m) at)
        | inr beyond ↦ omega (arith, get_or_past (xs ++ x ∷ []) line 0 (omega (arith, length-append xs (x ∷ []), part.lines, high, beyond)))
      ]
    ]

pub whole : (d : Distances) (xs : List ℕ) (n : ℕ) → IsPart d xs n → n ≡ d.lines → All (IsEntry d.lines) d.list → IsLeast d xs
whole d xs n part end all = record {
  solution = record {
    lines = part.lines ∙ end;
    first = omega (arith, part.first);
    kept = all_from_contains (IsKept xs) d.list (λ e there. part.kept e there (omega (arith, (All-contains (IsEntry d.lines) d.list e all there).within, end)));
  };
  least = λ other s line short. part.least other s line (omega (arith, short, end));
}

pub one_least : (d : Distances) (xs ys : List ℕ) → IsLeast d xs → IsLeast d ys → xs ≡ ys
one_least d xs ys a b = same_number_lists xs ys (a.solution.lines ∙ sym b.solution.lines) (λ k short.
    let low : k < d.lines = omega (arith, short, a.solution.lines) in
    omega (arith, a.least ys b.solution k low, b.least xs a.solution k low))

pub ruleset push_rules = (begun, pushed, whole, modest_entries)
