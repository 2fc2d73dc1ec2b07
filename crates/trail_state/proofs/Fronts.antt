-- Parts that are added with what is known of them, and fronts of such parts.
use Rattle.std.proofs.Common.{ℕ, suc, ◌≤◌, ◌≡◌, ◌<◌, ◌+◌, ◌||◌, Bool, true, false, if◌then◌else◌, leb, List, [], ◌∷◌, ◌++◌, drop, get_or, length, length-append, take, refl, sym, ap, subst, arith, ◌∙◌, inl, inr, Contains}
use Rattle.std.specs.List.{list_any}
use Rattle.std.proofs.lemmas.Bool.{cases_Bool, cases_lt, le-ltb}
use Rattle.std.proofs.lemmas.List.{drop-drop, get_or_append_left, length-map, get_or_push, map-append, take-append-le, take-map, take_all}
use Rattle.std.proofs.lemmas.List.Elements.{Contains-append_cases}
use Rattle.cell_num.proofs.Lists.{contains_here, contains_none, contains_there}
use Rattle.cell_num.proofs.Pairs.{test_there}
use Rattle.trail_state.specs.declared.edge.Edge.{Edge}
use Rattle.trail_state.specs.declared.edge.FingerEnds.{FingerEnds}
use Rattle.trail_state.specs.declared.front.Known.{Known}
use Rattle.trail_state.specs.declared.front.Part.{Part}
use Rattle.trail_state.specs.declared.front.Reached.{Reached}
use Rattle.trail_state.specs.declared.gate.Gate.{Gate}
use Rattle.trail_state.specs.Fronts.{front_at, is_long_at, is_same, next_front, with_all, with_column, with_new}
use Rattle.trail_state.specs.Known.{AreKnown, AreNext, Before, HasAll, IsKnown, is_reached, known_alone, known_edges, known_now, known_parts, parts_of, reached_by, with_reached}
use Rattle.trail_state.specs.Same.{part_decides}
use Rattle.trail_state.specs.Sorted.{inserted}
use Rattle.trail_state.proofs.Listed.{all_kept, each_there, front_has}
use Rattle.trail_state.proofs.Parts.{longer_yet, one_added}

-- ---- one part more

any_reached : (r : Reached) (all : List Reached) → list_any (is_reached r) all ≡ list_any (is_same r.part) (parts_of all)
any_reached r [] = refl
any_reached r (s ∷ all) = ap (λ b. is_same r.part s.part || b) (any_reached r all)

pub parts_with : (all : List Reached) (r : Reached) → parts_of (with_reached all r) ≡ with_new (parts_of all) r.part
parts_with all r =
    if_of (list_any (is_reached r) all)
    ∙ ap (λ b. if b then parts_of all else parts_of all ++ r.part ∷ []) (any_reached r all)
  where
    if_of : (b : Bool) → parts_of (if b then all else all ++ r ∷ []) ≡ (if b then parts_of all else parts_of all ++ r.part ∷ [])
    if_of true = refl
    if_of false = map-append (λ (s : Reached). s.part) all (r ∷ [])

pub known_with : (gate : Gate) (xs : List FingerEnds) (all : List Reached) (r : Reached) → AreKnown gate xs all → IsKnown gate xs (parts_of all) r → AreKnown gate xs (with_reached all r)
unfolding AreKnown
known_with gate xs all r known one = by (list_any (is_reached r) all)
  where
    pushed : AreKnown gate xs (all ++ r ∷ [])
    pushed i d within = elim (cases_lt i (length all)) [
      | inl inside ↦
          subst (λ l. IsKnown gate xs (parts_of l) (get_or (all ++ r ∷ []) i d)) (sym (take-append-le i all (r ∷ []) (omega (arith, inside))))
          (subst (IsKnown gate xs (parts_of (take i all))) (sym (get_or_append_left all (r ∷ []) d i inside)) (known i d inside))
      | inr last ↦
          let at : length all ≡ i = omega (arith, last, within, length-append all (r ∷ [])) in
          subst (λ l. IsKnown gate xs (parts_of l) (get_or (all ++ r ∷ []) i d)) (sym (take-append-le i all (r ∷ []) (omega (arith, at)) ∙ take_all i all (omega (arith, at))))
          (subst (IsKnown gate xs (parts_of all)) (sym (get_or_push all r d i at)) one)
    ]

    by : (b : Bool) → AreKnown gate xs (if b then all else all ++ r ∷ [])
    by true = known
    by false = pushed

-- ---- parts that are there already

new_same : (parts : List Part) (p : Part) → Contains parts p → with_new parts p ≡ parts
new_same parts p there = ap (λ b. if b then parts else parts ++ p ∷ []) (test_there (is_same p) parts p there ((part_decides p p).1 refl))

pub all_same : (parts some : List Part) → HasAll parts some → with_all parts some ≡ parts
all_same parts [] has = refl
all_same parts (p ∷ some) has =
    ap (λ l. with_all l some) (new_same parts p (has p (contains_here p some))) ∙ all_same parts some (λ q c. has q (contains_there p some q c))

-- what earlier parts lead to is what more of them do
pub before_more : (gate : Gate) (xs : List FingerEnds) (front more : List Part) (p : Part) → HasAll more front → Before gate xs front p → Before gate xs more p
before_more gate xs front more p has b = record { part = b.part; there = has b.part b.there; next = b.next }

-- both the parts that were there and those that were added
pub has_added : (old some : List Part) → HasAll (with_all old some) (old ++ some)
has_added old some p c = elim (Contains-append_cases old some p c) [
  | inl before ↦ all_kept some old p before
  | inr one ↦ each_there some old p one
]

-- ---- one edge of a column more

-- the first of the edges are there
pub edges_same : (old : List Part) (part : Part) (left : List FingerEnds) (edges : List Edge) → HasAll old (with_column part left edges) → old ≡ with_all old (with_column part left edges)
edges_same old part left edges has = sym (all_same old (with_column part left edges) has)

made : List Edge → List FingerEnds → ℕ → ℕ → Reached
made edges left fingers known = record { part = record { edges = edges; left = left }; known = record { fingers = fingers; edges = known } }

made_is : (r : Reached) (part : Part) (left : List FingerEnds) (fingers number : ℕ) (e : Edge) → r.part.edges ≡ inserted e part.edges → r.part.left ≡ left → r.known.fingers ≡ fingers → r.known.edges ≡ number → r ≡ reached_by part left fingers number e
unfolding made
made_is r part left fingers number e edges rest first known =
    let whole : made r.part.edges r.part.left r.known.fingers r.known.edges ≡ made (inserted e part.edges) left fingers number =
    ap (λ v. made v r.part.left r.known.fingers r.known.edges) edges ∙ ap (λ v. made (inserted e part.edges) v r.known.fingers r.known.edges) rest
    ∙ ap (λ v. made (inserted e part.edges) left v r.known.edges) first ∙ ap (made (inserted e part.edges) left fingers) known in
    whole

pub edge_added : (all new : List Reached) (r : Reached) (part : Part) (left : List FingerEnds) (fingers number : ℕ) (e : Edge) → new ≡ with_reached all r → r.part.edges ≡ inserted e part.edges → r.part.left ≡ left → r.known.fingers ≡ fingers → r.known.edges ≡ number → new ≡ with_reached all (reached_by part left fingers number e)
edge_added all new r part left fingers number e is edges rest first known = is ∙ ap (with_reached all) (made_is r part left fingers number e edges rest first known)

pub column_parts : (part : Part) (left : List FingerEnds) (edges : List Edge) (i fingers known : ℕ) (d : Edge) (old : List Part) (now new : List Reached) → i < length edges → parts_of now ≡ with_all old (with_column part left (take i edges)) → new ≡ with_reached now (reached_by part left fingers known (get_or edges i d)) → parts_of new ≡ with_all old (with_column part left (take (i + 1) edges))
column_parts part left edges i fingers known d old now new within before more =
    one_added (λ e. record { edges = inserted e part.edges; left = left }) edges i d old (parts_of now) (parts_of new) within before
    (ap parts_of more ∙ parts_with now (reached_by part left fingers known (get_or edges i d)))

pub column_known : (gate : Gate) (xs : List FingerEnds) (part : Part) (left : List FingerEnds) (fingers number : ℕ) (again : Bool) (edges : List Edge) (i : ℕ) (d : Edge) (old : List Part) (now new : List Reached) → i < length edges → parts_of now ≡ with_all old (with_column part left (take i edges)) → number ≡ (if again then i else 0) → new ≡ with_reached now (reached_by part left fingers number (get_or edges i d)) → AreNext gate xs old part left fingers again edges → AreKnown gate xs now → AreKnown gate xs new
unfolding AreNext
column_known gate xs part left fingers number again edges i d old now new within before is more next known =
    let e : Edge = get_or edges i d in
    let one : IsKnown gate xs (parts_of now) (reached_by part left fingers (if again then i else 0) e) =
    λ p c. before_more gate xs (old ++ with_column part left (take i edges)) (parts_of now) p (λ q k. subst (λ l. Contains l q) (sym before) (has_added old (with_column part left (take i edges)) q k)) (next i d within p c) in
    subst (AreKnown gate xs) (sym more) (known_with gate xs now (reached_by part left fingers number e) known (subst (λ n. IsKnown gate xs (parts_of now) (reached_by part left fingers n e)) (sym is) one))

-- ---- what is known of a part of a front

pub known_there : (gate : Gate) (xs : List FingerEnds) (front : List Reached) (i : ℕ) (r : Reached) (again : Bool) (known : Known) (now : List Part) → i < length front → r ≡ get_or front i r → (again ≡ true → AreKnown gate xs front) → now ≡ next_front gate xs (parts_of (take i front)) → known ≡ known_now again r → HasAll now (known_parts gate xs r.part known)
unfolding AreKnown
known_there gate xs front i r again known now within at all is same p c = elim (cases_Bool again) [
  | inl on ↦
      let mine : Contains (known_parts gate xs r.part r.known) p = subst (λ k. Contains (known_parts gate xs r.part k) p) (same ∙ ap (λ b. known_now b r) on) c in
      let b : Before gate xs (parts_of (take i front)) p = all on i r within p (subst (λ (s : Reached). Contains (known_parts gate xs s.part s.known) p) at mine) in
      subst (λ l. Contains l p) (sym is) (front_has gate xs (parts_of (take i front)) b.part p b.there b.next)
  | inr off ↦ absurd (nothing xs r (subst (λ k. Contains (known_parts gate xs r.part k) p) (same ∙ ap (λ b. known_now b r) off) c))
]
  where
    nothing : (ys : List FingerEnds) (r : Reached) → Contains (known_parts gate ys r.part (record { fingers = 0; edges = 0 })) p → ⊥
    nothing [] r c = by r.part.left c
      where
        by : (l : List FingerEnds) → Contains (known_alone gate r.part 0 l) p → ⊥
        by [] c = contains_none p c
        by (y ∷ ys) c = contains_none p c
    nothing (x ∷ ys) r c = by r.part.left c
      where
        by : (l : List FingerEnds) → Contains (known_edges gate x ys r.part 0 l) p → ⊥
        by [] c = none_if (leb (length r.part.left) (length ys)) c
          where
            none_if : (b : Bool) → Contains (if b then [] else []) p → ⊥
            none_if true c = contains_none p c
            none_if false c = contains_none p c
        by (y ∷ left) c = contains_none p c

pub none_known : (gate : Gate) (xs : List FingerEnds) (all : List Reached) → length all ≡ 0 → AreKnown gate xs all
unfolding AreKnown
none_known gate xs all none i d within = absurd (omega (arith, none, within))

-- ---- along the columns

pub one_later : (at : ℕ) (xs : List FingerEnds) → drop 1 (drop at xs) ≡ drop (at + 1) xs
one_later at xs = drop-drop 1 at xs

pub longer_front : (gate : Gate) (xs : List FingerEnds) (front now : List Reached) (i most : ℕ) → parts_of now ≡ next_front gate xs (parts_of (take i front)) → most < length now → most < length (next_front gate xs (parts_of front))
longer_front gate xs front now i most is more =
    longer_yet gate xs (parts_of front) (parts_of now) i most (is ∙ ap (next_front gate xs) (sym (take-map (λ (r : Reached). r.part) i front))) (omega (arith, more, length-map now (λ (r : Reached). r.part)))

pub not_long : (gate : Gate) (most at : ℕ) (front : List Reached) → parts_of front ≡ front_at gate (at + 1) → length front ≤ most → is_long_at most gate at ≡ false
not_long gate most at front is few =
    let next : at + 1 ≡ suc at = omega arith in
    le-ltb most (length (front_at gate (suc at))) (omega (arith, few, ap length is, ap (λ n. length (front_at gate n)) next, length-map front (λ (r : Reached). r.part)))

pub one_column_more : (gate : Gate) (at : ℕ) (xs : List FingerEnds) (front now : List Part) → front ≡ front_at gate at → xs ≡ drop at gate.p → now ≡ next_front gate xs front → now ≡ front_at gate (at + 1)
one_column_more gate at xs front now so_far rest is =
    let next : suc at ≡ at + 1 = omega arith in
    is ∙ ap (λ ys. next_front gate ys front) rest ∙ ap (next_front gate (drop at gate.p)) so_far ∙ ap (front_at gate) next
