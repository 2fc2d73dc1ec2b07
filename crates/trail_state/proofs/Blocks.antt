-- The nodes that a gate can meet, by the nets that its two rows can have: 256 nodes for each net of the P row.
use Rattle.std.proofs.Common.{ℕ, suc, zero, ◌≡◌, ◌+◌, ◌-◌, ◌*◌, ◌/◌, ◌%◌, ◌<◌, ◌≤◌, ◌==◌, ◌&&◌, Bool, true, false, cond, if◌then◌else◌, ltb, List, [], ◌∷◌, ◌++◌, map, append-nil, refl, sym, ap, arith, ◌∙◌, inl, inr}
use Rattle.std.specs.List.{filter, flat_map, range_with_len}
use Rattle.std.proofs.lemmas.Bool.{and_parts, cases_Bool}
use Rattle.std.proofs.lemmas.Grind.{flat_map-append}
use Rattle.std.proofs.lemmas.List.{map-append}
use Rattle.std.proofs.lemmas.List.Elements.{filter-append}
use Rattle.cell_num.specs.declared.finger.Row.TheVariants.{N}
use Rattle.cell_num.specs.declared.finger.Finger.{Finger}
use Rattle.cell_num.specs.declared.finger.Fingers.{Fingers}
use Rattle.cell_num.specs.Fingers.{AreFingers, on_gate}
use Rattle.cell_num.proofs.Pairs.{Some', test_finds}
use Rattle.trail_state.specs.Edges.{pair_node}
use Rattle.trail_state.specs.Places.{node_at}
use Rattle.trail_state.proofs.Parts.{range_next}
use Rattle.trail_state.specs.Nodes.{has_net, is_net_in, is_net_on, may_have, nodes_of}
use Rattle.trail_state.proofs.Opened.{in_net, net_below}

pub none_pass : (p : ℕ → Bool) (a n : ℕ) → ((v : ℕ) → a ≤ v → p v ≡ false) → filter p (range_with_len a n) ≡ []
none_pass p a zero off = refl
none_pass p a (suc n) off = rw (off a (omega arith)) (none_pass p (a + 1) n (λ v h. off v (omega (arith, h))))

range_parts : (a n k : ℕ) → range_with_len a (n + k) ≡ range_with_len a n ++ range_with_len (a + n) k
range_parts a zero k = let long : 0 + k ≡ k = omega arith in let from : a ≡ a + 0 = omega arith in ap (range_with_len a) long ∙ ap (λ b. range_with_len b k) from
range_parts a (suc n) k =
    let long : suc n + k ≡ suc (n + k) = omega arith in
    let from : a + 1 + n ≡ a + suc n = omega arith in
    ap (range_with_len a) long ∙ ap (λ l. a ∷ l) (range_parts (a + 1) n k ∙ ap (λ b. range_with_len (a + 1) n ++ range_with_len b k) from)

-- one node more in front
joined : (at a : ℕ) (b c t : Bool) (nodes nets : List ℕ) → t ≡ (b && c) → nodes ≡ (if b then map (pair_node at) nets else []) → cond t ((256 * at + a) ∷ nodes) nodes ≡ (if b then map (pair_node at) (cond c (a ∷ nets) nets) else [])
joined at a true true t nodes nets passes is = rw passes (ap (λ l. (256 * at + a) ∷ l) is)
joined at a true false t nodes nets passes is = rw passes is
joined at a false c t nodes nets passes is = rw passes is

-- a test of a node's P net, and one of its N net
module _ (p n : ℕ → Bool) where
  abbrev both : ℕ → Bool
  both v = p (v / 256) && n (v % 256)

  abbrev pairs_with : List ℕ → ℕ → List ℕ
  pairs_with ns at = map (pair_node at) ns

  -- the nodes of the P net `at`, from the N net `a` on
  part : (at a k : ℕ) (b : Bool) → a + k ≤ 256 → p at ≡ b → filter both (range_with_len (256 * at + a) k) ≡ (if b then map (pair_node at) (filter n (range_with_len a k)) else [])
  part at a zero true few is = refl
  part at a zero false few is = refl
  part at a (suc k) b few is =
      let high : (256 * at + a) / 256 ≡ at = omega (arith, few) in
      let low : (256 * at + a) % 256 ≡ a = omega (arith, few) in
      let next : 256 * at + a + 1 ≡ 256 * at + (a + 1) = omega arith in
      let passes : both (256 * at + a) ≡ (b && n a) = rw (high, low, is) refl in
      joined at a b (n a) (both (256 * at + a)) (filter both (range_with_len (256 * at + a + 1) k)) (filter n (range_with_len (a + 1) k)) passes
      (ap (λ v. filter both (range_with_len v k)) next ∙ part at (a + 1) k b (omega (arith, few)) is)

  last : (m : ℕ) (ns : List ℕ) (b : Bool) → (if b then map (pair_node m) ns else []) ≡ flat_map (pairs_with ns) (cond b (m ∷ []) [])
  last m ns true = sym (append-nil (map (pair_node m) ns))
  last m ns false = refl

  blocks : (m k : ℕ) → k ≡ 256 * m → filter both (range_with_len 0 k) ≡ flat_map (pairs_with (filter n (range_with_len 0 256))) (filter p (range_with_len 0 m))
  blocks zero k is = ap (λ j. filter both (range_with_len 0 j)) (let none : k ≡ 0 = omega (arith, is) in none)
  blocks (suc m) k is =
      let ns : List ℕ = filter n (range_with_len 0 256) in
      let more : k ≡ 256 * m + 256 = omega (arith, is) in
      let from : 0 + 256 * m ≡ 256 * m + 0 = omega arith in
      let one : suc m ≡ m + 1 = omega arith in
      let nodes : filter both (range_with_len 0 k) ≡ filter both (range_with_len 0 (256 * m)) ++ filter both (range_with_len (0 + 256 * m) 256) =
      ap (λ j. filter both (range_with_len 0 j)) more ∙ ap (filter both) (range_parts 0 (256 * m) 256) ∙ filter-append both (range_with_len 0 (256 * m)) (range_with_len (0 + 256 * m) 256) in
      let block : filter both (range_with_len (0 + 256 * m) 256) ≡ flat_map (pairs_with ns) (filter p (m ∷ [])) =
      ap (λ v. filter both (range_with_len v 256)) from ∙ part m 0 256 (p m) (omega arith) refl ∙ last m ns (p m) in
      let nets : filter p (range_with_len 0 (suc m)) ≡ filter p (range_with_len 0 m) ++ filter p (m ∷ []) =
      ap (λ j. filter p (range_with_len 0 j)) one ∙ ap (filter p) (range_next m) ∙ filter-append p (range_with_len 0 m) (m ∷ []) in
      nodes ∙ ap (λ l. l ++ filter both (range_with_len (0 + 256 * m) 256)) (blocks m (256 * m) refl) ∙ ap (λ l. flat_map (pairs_with ns) (filter p (range_with_len 0 m)) ++ l) block
      ∙ sym (flat_map-append (pairs_with ns) (filter p (range_with_len 0 m)) (filter p (m ∷ []))) ∙ ap (flat_map (pairs_with ns)) (sym nets)

  -- no N net stands behind the nets
  nets_end : (nets : ℕ) → nets ≤ 256 → ((v : ℕ) → nets ≤ v → n v ≡ false) → filter n (range_with_len 0 256) ≡ filter n (range_with_len 0 nets)
  nets_end nets few off =
      let whole : 256 ≡ nets + (256 - nets) = omega (arith, few) in
      ap (λ j. filter n (range_with_len 0 j)) whole ∙ ap (filter n) (range_parts 0 nets (256 - nets)) ∙ filter-append n (range_with_len 0 nets) (range_with_len (0 + nets) (256 - nets))
      ∙ ap (λ l. filter n (range_with_len 0 nets) ++ l) (none_pass n (0 + nets) (256 - nets) (λ v h. off v (omega (arith, h)))) ∙ append-nil (filter n (range_with_len 0 nets))

  pairs_are : (nets : ℕ) → nets ≤ 256 → (0 < nets → (v : ℕ) → nets ≤ v → n v ≡ false) → flat_map (pairs_with (filter n (range_with_len 0 nets))) (filter p (range_with_len 0 nets)) ≡ filter both (range_with_len 0 (256 * nets))
  pairs_are zero few off = sym (blocks 0 (256 * 0) refl)
  pairs_are (suc m) few off = ap (λ ns. flat_map (pairs_with ns) (filter p (range_with_len 0 (suc m)))) (sym (nets_end (suc m) few (off (omega arith)))) ∙ sym (blocks (suc m) (256 * suc m) refl)

at_each : (ns ps : List ℕ) → flat_map (λ at. map (λ n. node_at (pair_node at n)) ns) ps ≡ map node_at (flat_map (λ at. map (pair_node at) ns) ps)
at_each ns [] = refl
at_each ns (at ∷ ps) = ap (λ l. map (λ n. node_at (pair_node at n)) ns ++ l) (at_each ns ps) ∙ ap (λ l. l ++ map node_at (flat_map (λ q. map (pair_node q) ns) ps)) (twice ns) ∙ sym (map-append node_at (map (pair_node at) ns) (flat_map (λ q. map (pair_node q) ns) ps))
  where
    twice : (nets : List ℕ) → map (λ n. node_at (pair_node at n)) nets ≡ map node_at (map (pair_node at) nets)
    twice [] = refl
    twice (n ∷ nets) = ap (λ l. node_at (pair_node at n) ∷ l) (twice nets)

-- a net that the gate may have fills the row
may_fill : (mine other : List Finger) (g v : ℕ) → may_have mine other g v ≡ true → is_net_in mine v ≡ true
may_fill mine other g v = at (ltb (on_gate g mine) (on_gate g other))
  where
    at : (b : Bool) → (if b then is_net_in mine v else is_net_on mine g v) ≡ true → is_net_in mine v ≡ true
    at true e = e
    at false e =
        let s : Some' (λ (x : Finger). ((x.gate.0 == g) && has_net v x) ≡ true) mine = test_finds (λ (x : Finger). (x.gate.0 == g) && has_net v x) mine e in
        in_net mine v s.it s.there (and_parts (s.it.gate.0 == g) (has_net v s.it) s.holds).1

pub node_pairs : (f : Fingers) (g : ℕ) → AreFingers f → flat_map (λ at. map (λ n. node_at (pair_node at n)) (filter (may_have f.n f.p g) (range_with_len 0 f.nets))) (filter (may_have f.p f.n g) (range_with_len 0 f.nets)) ≡ nodes_of f g
node_pairs f g ok =
    at_each (filter (may_have f.n f.p g) (range_with_len 0 f.nets)) (filter (may_have f.p f.n g) (range_with_len 0 f.nets))
    ∙ ap (map node_at) (pairs_are (may_have f.p f.n g) (may_have f.n f.p g) f.nets ok.few_nets off)
  where
    off : 0 < f.nets → (v : ℕ) → f.nets ≤ v → may_have f.n f.p g v ≡ false
    off some v beyond = elim (cases_Bool (may_have f.n f.p g v)) [
      | inl e ↦ absurd (omega (arith, beyond, net_below N f.nets f.n v ok.n some (may_fill f.n f.p g v e)))
      | inr e ↦ e
    ]
