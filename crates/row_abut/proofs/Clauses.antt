-- What the tests of a row's cells show of them, and what holds of the row where they pass.
use Rattle.std.proofs.Common.{◌≡◌, ◌||◌, not, ℕ, suc, ◌+◌, ◌-◌, ◌≤◌, ◌==◌, Bool, true, false, Option, Some, None, List, [], ◌∷◌, drop, take, length, option_map, cond, inl, inr, refl, sym, subst, ap, arith, ◌∙◌}
use Rattle.std.specs.Prelude.{find, position, nat_lt, IsTrue}
use Rattle.std.specs.List.{All, AllPairs, AllZip, Contains, position_or_len, zip}
use Rattle.std.proofs.lemmas.Bool.{false≢true, ltb-false}
use Rattle.std.proofs.lemmas.Bool.Decides.{Decides-eqb}
use Rattle.std.proofs.lemmas.List.Elements.{All-contains, All-head, All-tail}
use Rattle.cell_num.proofs.Lists.{contains_none, contains_cons}
use Rattle.cell_num.proofs.Pairs.{pairs_head}
use Rattle.cell_num.specs.Names.{is_name}
use Rattle.cell_num.specs.declared.finger.Fingers.{Fingers}
use Rattle.scmos_rules.specs.Rules.{Obeys}
use Rattle.scmos_rules.specs.declared.rules.Deck.TheVariants.{Plain}
use Rattle.net_extract.proofs.Finding.{found_none}
use Rattle.cell_draw.specs.Extracted.{ExtractsTo}
use Rattle.row_abut.specs.Cells.{IsRowCell, HaveSameRails, AreDrawn, inner_cells}
use Rattle.row_abut.specs.Circuit.{names_of_row, fingers_of_row, IsCircuit}
use Rattle.row_abut.specs.Faults.{first_height, other_height, clash, first_clash}
use Rattle.row_abut.specs.Row.{flat_row}
use Rattle.row_abut.specs.declared.cell.RowCell.{RowCell}
use Rattle.row_abut.specs.Measures.{CHANNEL_ROOM, LEAST_INNER}
use Rattle.row_abut.proofs.Beside.{Side, low, high}
use Rattle.row_abut.proofs.Fingers.{extracts}
use Rattle.row_abut.proofs.Nets.{IsNamedCell, NamedRow}
use Rattle.row_abut.proofs.Places.{Fit, AreFitting, AreInner, cell_listed}
use Rattle.row_abut.proofs.RowTexts.{rail_name, name_unmarked}
use Rattle.row_abut.proofs.Rows.{Row, Spot, standing_at}
use Rattle.row_abut.proofs.Rules.{obeys}

-- ---- heights
none_found : {X Y : Type 0} (f : X → Y) (o : Option X) → option_map f o ≡ None → o ≡ None
none_found f None e = refl
none_found f (Some x) e = absurd (cc e)

same_height : (h : ℕ) (cells : List RowCell) → other_height h cells ≡ None → (c : RowCell) → Contains cells c → c.drawing.height ≡ h
same_height h cells e c l = by (c.drawing.height == h) refl
  where
    test : RowCell → Bool
    test d = not (d.drawing.height == h)

    by : (b : Bool) → (c.drawing.height == h) ≡ b → c.drawing.height ≡ h
    by true t = (Decides-eqb c.drawing.height h).0 t
    by false t = absurd (found_none (λ (d : RowCell). not (d.drawing.height == h)) cells (none_found (λ (d : RowCell). d.drawing.height) (find (λ (d : RowCell). not (d.drawing.height == h)) cells) e) c l (rw t refl))

-- ---- the channel
none_before_end : {X : Type 0} (p : X → Bool) (xs : List X) → position p xs ≡ None → length xs ≤ position_or_len p xs
none_before_end p xs e = by (nat_lt (position_or_len p xs) (length xs)) refl e
  where
    by : (b : Bool) → nat_lt (position_or_len p xs) (length xs) ≡ b → cond b (Some (position_or_len p xs)) None ≡ None → length xs ≤ position_or_len p xs
    by true t f = absurd (cc f)
    by false t f = let l = ltb-false (position_or_len p xs) (length xs) t in omega (arith, l)

not_first : {X : Type 0} (p : X → Bool) (x : X) (xs : List X) → length (x ∷ xs) ≤ position_or_len p (x ∷ xs) → (p x ≡ false) × (length xs ≤ position_or_len p xs)
not_first p x xs e = by (p x) refl e
  where
    by : (b : Bool) → p x ≡ b → suc (length xs) ≤ cond (not b) (1 + position_or_len p xs) 0 → (p x ≡ false) × (length xs ≤ position_or_len p xs)
    by true t f = absurd (omega (arith, f))
    by false t f = (t, omega (arith, f))

neither : (a b : Bool) → (a || b) ≡ false → (a ≡ false) × (b ≡ false)
neither false b e = (refl, e)
neither true b e = absurd (false≢true (sym e))

no_clash : (a b : RowCell) → clash (a, b) ≡ false → Fit a b
no_clash a b e =
    let k = neither (nat_lt b.edges.p (a.edges.n + CHANNEL_ROOM)) (nat_lt a.edges.p (b.edges.n + CHANNEL_ROOM)) e in
    let one = ltb-false b.edges.p (a.edges.n + CHANNEL_ROOM) k.0 in
    let other = ltb-false a.edges.p (b.edges.n + CHANNEL_ROOM) k.1 in
    record { first = omega (arith, one); second = omega (arith, other) }

fitting : (cells : List RowCell) → length (zip cells (drop 1 cells)) ≤ position_or_len clash (zip cells (drop 1 cells)) → AreFitting cells
fitting [] e = tt
fitting (c ∷ []) e = tt
fitting (c ∷ d ∷ cs) e = let k = not_first clash (c, d) (zip (d ∷ cs) cs) e in (no_clash c d k.0, fitting (d ∷ cs) k.1)

-- ---- widths
all_but_last : (d : RowCell) (ds : List RowCell) → All (λ (c : RowCell). LEAST_INNER ≤ c.drawing.width) (take (length ds) (d ∷ ds)) → AreInner (d ∷ ds)
all_but_last d [] a = tt
all_but_last d (e ∷ es) a = (All-head (λ (c : RowCell). LEAST_INNER ≤ c.drawing.width) d (take (length es) (e ∷ es)) a, all_but_last e es (All-tail (λ (c : RowCell). LEAST_INNER ≤ c.drawing.width) d (take (length es) (e ∷ es)) a))

inner : (cells : List RowCell) → All (λ (c : RowCell). LEAST_INNER ≤ c.drawing.width) (inner_cells cells) → AreInner (drop 1 cells)
inner [] a = tt
inner (c ∷ []) a = tt
inner (c ∷ d ∷ ds) a =
    let count : length (c ∷ d ∷ ds) - 1 ≡ suc (length ds) = omega arith in
    all_but_last d ds (subst (λ n. All (λ (z : RowCell). LEAST_INNER ≤ z.drawing.width) (drop 1 (take n (c ∷ d ∷ ds)))) count a)

-- ---- the row
abbrev row_of : (cells : List RowCell) → AreDrawn cells → other_height (first_height cells) cells ≡ None → first_clash cells ≡ None → Row
row_of cells d even fit = record { cells = cells; height = first_height cells; each = d.each; even = same_height (first_height cells) cells even; fitting = fitting cells (none_before_end clash (zip cells (drop 1 cells)) fit); inner = inner cells d.inner }

pub row_obeys : (cells : List RowCell) → AreDrawn cells → other_height (first_height cells) cells ≡ None → first_clash cells ≡ None → Obeys Plain (flat_row cells).rects
row_obeys cells d even fit = obeys (row_of cells d even fit)

circuit_at : (cells : List RowCell) (fingers : List Fingers) → AllZip IsCircuit cells fingers → (c : RowCell) → Contains cells c → (f : Fingers) × IsCircuit c f
circuit_at [] [] z c l = absurd (contains_none c l)
circuit_at [] (f ∷ fs) z c l = absurd z
circuit_at (d ∷ ds) [] z c l = absurd z
circuit_at (d ∷ ds) (f ∷ fs) z c l = elim (contains_cons d ds c l) [ inl e ↦ (f, subst (λ (k : RowCell). IsCircuit k f) e z.0) | inr r ↦ circuit_at ds fs z.1 c r ]

same_rail : (a b : RowCell) → HaveSameRails a b → (side : Side) → rail_name a side ≡ rail_name b side
same_rail a b h low = h.gnd
same_rail a b h high = h.vdd

rail_of_first : (c : RowCell) (cs : List RowCell) → AllPairs HaveSameRails (c ∷ cs) → (d : RowCell) → Contains (c ∷ cs) d → (side : Side) → rail_name c side ≡ rail_name d side
rail_of_first c cs a d l side = elim (contains_cons c cs d l) [
  | inl e ↦ ap (λ (k : RowCell). rail_name k side) e
  | inr r ↦ same_rail c d (All-contains (HaveSameRails c) cs d (pairs_head HaveSameRails c cs a) r) side
]

alike : (cells : List RowCell) → AllPairs HaveSameRails cells → (a b : RowCell) → Contains cells a → Contains cells b → (side : Side) → rail_name a side ≡ rail_name b side
alike [] p a b l m side = absurd (contains_none a l)
alike (c ∷ cs) p a b l m side = sym (rail_of_first c cs p a l side) ∙ rail_of_first c cs p b m side

named_cell : (c : RowCell) (f : Fingers) → IsRowCell c → IsCircuit c f → IsNamedCell c
named_cell c f k z = record {
  named = z.extracts.nets;
  rails = z.rails;
  differ = z.differ;
  unmarked = λ name l. name_unmarked name (All-contains (λ n. IsTrue (is_name n)) c.nets name k.names l);
  some = λ l. false≢true (All-contains (λ n. IsTrue (is_name n)) c.nets [] k.names l);
}

pub row_extracts : (cells : List RowCell) (fingers : List Fingers) → length cells ≤ 16 → All IsRowCell cells → AllPairs HaveSameRails cells → AreDrawn cells → other_height (first_height cells) cells ≡ None → first_clash cells ≡ None → AllZip IsCircuit cells fingers → ExtractsTo Plain (names_of_row cells) (fingers_of_row cells fingers) (flat_row cells)
row_extracts cells fingers few each rails d even fit z = extracts named fingers z
  where
    row : Row
    row = row_of cells d even fit

    listed : (i : Spot row) → Contains cells (standing_at row i).cell
    listed i = cell_listed 0 0 cells i

    named : NamedRow
    named = record {
      row = row;
      few = omega (arith, few);
      cell = λ i. let c = (standing_at row i).cell in let k = circuit_at cells fingers z c (listed i) in named_cell c k.0 (All-contains IsRowCell cells c each (listed i)) k.1;
      alike = λ i j side. alike cells rails (standing_at row i).cell (standing_at row j).cell (listed i) (listed j) side;
    }
