-- The graph of edges, and the steps of a walk through them.
use Rattle.std.proofs.Common.{ℕ, ◌≡◌, ◌+◌, ◌≤◌, ◌==◌, Bool, true, false, if◌then◌else◌, leb, List, [], ◌∷◌}
use Rattle.std.proofs.Common.{refl, sym, ap, arith, ◌∙◌, inl, inr, All}
use Rattle.std.proofs.lemmas.Bool.{cases_eq, eq-eqb, ne_eqb}
use Rattle.std.proofs.lemmas.List.Elements.{All-cons, All-contains, All-head, All-nil, All-tail}
use Rattle.std.proofs.lemmas.List.Sums.{sum_by-cons}
use Rattle.cell_num.proofs.Lists.{all_from_contains}
use Rattle.row_state.specs.Chained.{chained_class, class_chained, least_le}
use Rattle.row_state.specs.Classes.{IsLabelling, joined, least_chained}
use Rattle.cell_num.specs.declared.finger.Finger.{Finger}
use Rattle.trail_state.specs.declared.edge.Edge.{Edge}
use Rattle.trail_state.specs.Edges.{edge_between}
use Rattle.trail_state.proofs.Links.{finger_of, fingers_of}
use Rattle.trail_state.proofs.Paired.{turned_edge}
use Rattle.trail_state.proofs.Walks.{edges_of, ordered}
use Rattle.trail_check.specs.Graph.{AreChained, class_of, degree}
use Rattle.trail_check.proofs.Steps.{Step, bit, edges}
use Rattle.trail_check.proofs.Steps as steps
use Rattle.trail_check.proofs.Ends.{AreLabels}

-- the edges of a walk
abbrev pub passed : List Step → List Edge
passed w = edges edge_between turned_edge w

pub passed_is : (w : List Step) → passed w ≡ edges_of w
passed_is [] = refl
passed_is ((l, r) ∷ w) = ap (λ es. edge_between l r ∷ es) (passed_is w)

-- what holds of the edge's nodes, whichever of them is the lesser
pub of_edge : (P : ℕ → ℕ → Type 0) (l r : ℕ) → P l r → P r l → P (edge_between l r).a.0 (edge_between l r).b.0
of_edge P l r p q = by (leb l r)
  where
    by : (b : Bool) → P (ordered b l r).a.0 (ordered b l r).b.0
    by true = p
    by false = q

bit_same : (v l : ℕ) → ◌≡◌ {A = ℕ} (if v == l then 1 else 0) (bit (l == v))
bit_same v l = elim (cases_eq v l) [
  | inl e ↦
      let here : ◌≡◌ {A = ℕ} (if v == l then 1 else 0) 1 = rw (eq-eqb v l e) refl in
      let there : bit (l == v) ≡ 1 = rw (eq-eqb l v (sym e)) refl in
      here ∙ sym there
  | inr other ↦
      let here : ◌≡◌ {A = ℕ} (if v == l then 1 else 0) 0 = rw (ne_eqb v l other) refl in
      let there : bit (l == v) ≡ 0 = rw (ne_eqb l v (λ e. other (sym e))) refl in
      here ∙ sym there
]

-- how often an edge meets a node
abbrev pub meets : ℕ → Edge → ℕ
meets v e = (if v == e.a.0 then 1 else 0) + (if v == e.b.0 then 1 else 0)

pub degree_passed : (w : List Step) (v : ℕ) → degree (passed w) v ≡ steps.degree w v
degree_passed [] v = refl
degree_passed ((l, r) ∷ w) v =
    let here : meets v (edge_between l r) ≡ bit (l == v) + bit (r == v) =
    of_edge (λ a b. (if v == a then 1 else 0) + (if v == b then 1 else 0) ≡ bit (l == v) + bit (r == v)) l r
    (omega (arith, bit_same v l, bit_same v r)) (omega (arith, bit_same v l, bit_same v r)) in
    omega (arith, here, degree_passed w v, sum_by-cons (meets v) (edge_between l r) (passed w))

-- labels of edges
abbrev pub HaveLabels : (ℕ → ℕ) → List Edge → Type 0
HaveLabels label es = All (λ (e : Edge). label e.a.0 ≡ label e.b.0) es

pub labels_passed : (label : ℕ → ℕ) (w : List Step) → AreLabels label w → HaveLabels label (passed w)
labels_passed label [] h = All-nil (λ (e : Edge). label e.a.0 ≡ label e.b.0)
labels_passed label ((l, r) ∷ w) h =
    let here : label l ≡ label r = All-head (λ (s : Step). label s.0 ≡ label s.1) (l, r) w h in
    All-cons (λ (e : Edge). label e.a.0 ≡ label e.b.0) (edge_between l r) (passed w)
    (of_edge (λ a b. label a ≡ label b) l r here (sym here))
    (labels_passed label w (All-tail (λ (s : Step). label s.0 ≡ label s.1) (l, r) w h))

fingers_labelled : (label : ℕ → ℕ) (es : List Edge) → HaveLabels label es → IsLabelling label (fingers_of es)
fingers_labelled label [] h = All-nil (λ (f : Finger). label f.lo.0 ≡ label f.hi.0)
fingers_labelled label (e ∷ es) h =
    All-cons (λ (f : Finger). label f.lo.0 ≡ label f.hi.0) (finger_of e) (fingers_of es)
    (All-head (λ (d : Edge). label d.a.0 ≡ label d.b.0) e es h)
    (fingers_labelled label es (All-tail (λ (d : Edge). label d.a.0 ≡ label d.b.0) e es h))

edges_labelled : (label : ℕ → ℕ) (es : List Edge) → IsLabelling label (fingers_of es) → HaveLabels label es
edges_labelled label [] h = All-nil (λ (e : Edge). label e.a.0 ≡ label e.b.0)
edges_labelled label (e ∷ es) h =
    All-cons (λ (d : Edge). label d.a.0 ≡ label d.b.0) e es
    (All-head (λ (f : Finger). label f.lo.0 ≡ label f.hi.0) (finger_of e) (fingers_of es) h)
    (edges_labelled label es (All-tail (λ (f : Finger). label f.lo.0 ≡ label f.hi.0) (finger_of e) (fingers_of es) h))

-- the classes are those of edges as fingers
pub class_is : (es : List Edge) (v : ℕ) → class_of es v ≡ least_chained (fingers_of es) v
class_is [] v = refl
class_is (e ∷ es) v =
    ap (λ x. joined x (class_of es e.b.0) (class_of es v)) (class_is es e.a.0)
    ∙ ap (λ x. joined (least_chained (fingers_of es) e.a.0) x (class_of es v)) (class_is es e.b.0)
    ∙ ap (λ x. joined (least_chained (fingers_of es) e.a.0) (least_chained (fingers_of es) e.b.0) x) (class_is es v)

pub class_le : (es : List Edge) (v : ℕ) → class_of es v ≤ v
class_le es v = omega (arith, class_is es v, least_le (fingers_of es) v)

pub one_class : (es : List Edge) (u v : ℕ) → class_of es u ≡ class_of es v → AreChained es u v
one_class es u v e label h =
    class_chained (fingers_of es) u v (sym (class_is es u) ∙ e ∙ class_is es v) label (fingers_labelled label es h)

pub one_chain : (es : List Edge) (u v : ℕ) → AreChained es u v → class_of es u ≡ class_of es v
one_chain es u v h =
    class_is es u ∙ chained_class (fingers_of es) u v (λ label l. h label (edges_labelled label es l))
    ∙ sym (class_is es v)

-- labels are alike at both ends of each edge: those of classes are
pub class_labels : (es : List Edge) → HaveLabels (class_of es) es
class_labels es =
    all_from_contains (λ (e : Edge). class_of es e.a.0 ≡ class_of es e.b.0) es
    (λ e k. one_chain es e.a.0 e.b.0 (λ label h. All-contains (λ (d : Edge). label d.a.0 ≡ label d.b.0) es e h k))
