-- A placement has one legal and tight routing at most.
use Rattle.std.proofs.Common.{ℕ, zero, suc, ◌≡◌, ◌<◌, ◌≤◌, ◌⊎◌, get_or, List, inl, inr, refl, sym, ap, subst, arith, AllPairs, Contains}
use Rattle.std.proofs.lemmas.Bool.{cases_order}
use Rattle.std.proofs.lemmas.List.{get_or_default}
use Rattle.std.proofs.lemmas.List.Elements.{All-contains}
use Rattle.cell_num.specs.declared.net.NetNo.{NetNo}
use Rattle.cell_num.specs.declared.net.Pins.{Pins}
use Rattle.row_place.specs.declared.placement.Placement.{Placement}
use Rattle.row_place.specs.Trunks.{lines_of, HasTrunk, IsSpan, IsAbove}
use Rattle.channel_route.specs.declared.routing.Trunk.{Trunk}
use Rattle.channel_route.specs.declared.routing.Routing.{Routing}
use Rattle.channel_route.specs.Routing.{AreApart, IsLegal, IsEarlier, IsFree, IsTight}
use Rattle.cell_num.proofs.Pairs.{Some', some_from_any, any_at}
use Rattle.channel_route.proofs.SameRouting.{SameSpan, HaveSpans, IsKeyed, same_routing}
use Rattle.channel_route.proofs.Unique.{IsTightFor}

-- a net with a trunk
abbrev Key : Placement → Pins → Type 0
Key p pins = (net : NetNo) × HasTrunk p pins net

found : (p : Placement) (pins : Pins) (r : Routing) → IsLegal p pins r → (k : Key p pins) → Some' (λ (t : Trunk). t.net ≡ k.0) r.trunks
found p pins r l k = some_from_any (λ (t : Trunk). t.net ≡ k.0) r.trunks ((l.nets k.0).0 k.1)

-- its trunk in a legal routing
abbrev trunk : (p : Placement) (pins : Pins) (r : Routing) → IsLegal p pins r → Key p pins → Trunk
trunk p pins r l k = (found p pins r l k).it

-- of two elements of a list in order one stands before the other, or they are one
pub either : {X : Type 0} (R : X → X → Type 0) (xs : List X) (a b : X) → AllPairs R xs → Contains xs a → Contains xs b → (a ≡ b) ⊎ (R a b ⊎ R b a)
either {X} R xs a b h (k, sk, ek) (j, sj, ej) =
    elim (cases_order k j) [
      | inl same ↦ inl (one same)
      | inr other ↦ elim other [
        | inl less ↦ inr (inl (joined R ek there (h k j a less sj)))
        | inr more ↦ inr (inr (joined R there ek (h j k a more sk)))
      ]
    ]
  where
    there : get_or xs j a ≡ b
    there = subst (λ z. z ≡ b) (get_or_default xs j b a sj) ej

    one : k ≡ j → a ≡ b
    one same = subst (λ z. z ≡ b) (subst (λ i. get_or xs i a ≡ a) same ek) there

    joined : (R : X → X → Type 0) {x y u v : X} → x ≡ u → y ≡ v → R x y → R u v
    joined R {x} {y} {u} {v} e f r = subst (λ z. R u z) f (subst (λ z. R z y) e r)

-- in order of net, trunks of one net are one
one_a_net : (trunks : List Trunk) → AllPairs (λ a b. a.net.0 < b.net.0) trunks → (a b : Trunk) → Contains trunks a → Contains trunks b → a.net ≡ b.net → a ≡ b
one_a_net trunks up a b ha hb e =
    elim (either (λ (a b : Trunk). a.net.0 < b.net.0) trunks a b up ha hb) [
      | inl same ↦ same
      | inr other ↦ absurd (elim other [ inl less ↦ omega (arith, less, same) | inr more ↦ omega (arith, more, same) ])
    ]
  where
    same : a.net.0 ≡ b.net.0
    same = ap (λ (n : NetNo). n.0) e

-- the trunk of a net, over the span of the net
abbrev Of : (p : Placement) (pins : Pins) → Key p pins → Trunk → Type 0
Of p pins k t = (t.net ≡ k.0) × IsSpan p k.0 t.left t.right

spans : (p : Placement) (pins : Pins) → HaveSpans (Of p pins)
spans p pins k a b (na, sa) (nb, sb) = record {
  net = cc;
  left = both (All-contains (λ line. a.left ≤ line) (lines_of p k.0) b.left sa.none_before sb.begins) (All-contains (λ line. b.left ≤ line) (lines_of p k.0) a.left sb.none_before sa.begins);
  right = both (All-contains (λ line. line ≤ b.right) (lines_of p k.0) a.right sb.none_behind sa.ends) (All-contains (λ line. line ≤ a.right) (lines_of p k.0) b.right sa.none_behind sb.ends);
}
  where
    both : {m n : ℕ} → m ≤ n → n ≤ m → m ≡ n
    both e f = omega (arith, e, f)

is_of : (p : Placement) (pins : Pins) (r : Routing) (l : IsLegal p pins r) (k : Key p pins) → Of p pins k (trunk p pins r l k)
is_of p pins r l k =
    let t : Some' (λ (t : Trunk). t.net ≡ k.0) r.trunks = found p pins r l k in
    (t.holds, subst (λ n. IsSpan p n t.it.left t.it.right) t.holds (All-contains (λ (t : Trunk). IsSpan p t.net t.left t.right) r.trunks t.it l.spans t.there))

same_span : (p : Placement) (pins : Pins) (r s : Routing) (lr : IsLegal p pins r) (ls : IsLegal p pins s) (k : Key p pins) → SameSpan (trunk p pins r lr k) (trunk p pins s ls k)
same_span p pins r s lr ls k = spans p pins k (trunk p pins r lr k) (trunk p pins s ls k) (is_of p pins r lr k) (is_of p pins s ls k)

earlier_same : (a b c d : Trunk) → SameSpan a c → SameSpan b d → IsEarlier a b → IsEarlier c d
earlier_same a b c d e f (inl less) = inl (omega (arith, less, e.left, f.left))
earlier_same a b c d e f (inr (same, less)) = inr (omega (arith, same, e.left, f.left), omega (arith, less, ap (λ (n : NetNo). n.0) e.net, ap (λ (n : NetNo). n.0) f.net))

apart_same : (a b c d : Trunk) → SameSpan a c → SameSpan b d → AreApart a b → AreApart c d
apart_same a b c d e f (inl less) = inl (omega (arith, less, e.right, f.left))
apart_same a b c d e f (inr less) = inr (omega (arith, less, e.left, f.right))

apart_or_not : (a b : Trunk) → ((AreApart a b → ⊥) → ⊥) → AreApart a b
apart_or_not a b h =
    elim (cases_order a.right b.left) [
      | inl same ↦ second (omega (arith, same))
      | inr other ↦ elim other [ inl less ↦ inl less | inr more ↦ second (omega (arith, more)) ]
    ]
  where
    second : b.left ≤ a.right → AreApart a b
    second low =
        elim (cases_order b.right a.left) [
          | inl same ↦ absurd (h (none low (omega (arith, same))))
          | inr other ↦ elim other [ inl less ↦ inr less | inr more ↦ absurd (h (none low (omega (arith, more)))) ]
        ]
      where
        none : b.left ≤ a.right → a.left ≤ b.right → AreApart a b → ⊥
        none e f (inl g) = omega (arith, e, g)
        none e f (inr g) = omega (arith, f, g)

flipped : (a b : Trunk) → SameSpan a b → SameSpan b a
flipped a b e = record { net = sym e.net; left = sym e.left; right = sym e.right }

abbrev Over : (p : Placement) (pins : Pins) → Key p pins → Key p pins → Type 0
Over p pins k m = (line : ℕ) × IsAbove p pins k.0 m.0 line

-- an earlier trunk that shares a line, by a routing
abbrev Early : (p : Placement) (pins : Pins) (r : Routing) → IsLegal p pins r → Key p pins → Key p pins → Type 0
Early p pins r l m k = IsEarlier (trunk p pins r l m) (trunk p pins r l k) × (AreApart (trunk p pins r l m) (trunk p pins r l k) → ⊥)

abbrev track : (p : Placement) (pins : Pins) (r : Routing) → IsLegal p pins r → Key p pins → ℕ
track p pins r l k = (trunk p pins r l k).track

-- what tightness of a routing says of keys, where another one tells what is earlier
tight_keys : (p : Placement) (pins : Pins) (r q : Routing) (l : IsLegal p pins r) (m : IsLegal p pins q) → IsTight p pins q → IsTightFor (Over p pins) (Early p pins r l) (track p pins q m)
tight_keys p pins r q l m tight k = (
  record {
    above = λ y over. free.0.above (trunk p pins q m y) (found p pins q m y).there over.0 (subst (λ n. IsAbove p pins n (trunk p pins q m y).net over.0) (sym u.holds) (subst (λ n. IsAbove p pins k.0 n over.0) (sym (found p pins q m y).holds) over.1));
    clear = λ y same early. early.1 (apart_same _ _ _ _ (to_r y) (to_r k) (free.0.clear (trunk p pins q m y) (found p pins q m y).there same (earlier_same _ _ _ _ (to_q y) (to_q k) early.0)));
  },
  λ low less f. free.1 low less (record {
    above = λ b there line over.
        let y : Key p pins = (b.net, over.lower_trunk) in
        let is : trunk p pins q m y ≡ b = own b there over.lower_trunk in
        subst (λ (z : Trunk). z.track < low) is (f.above y (line, subst (λ n. IsAbove p pins n b.net line) u.holds over));
    clear = λ o there same early.
        let has : HasTrunk p pins o.net = (m.nets o.net).1 (any_at (λ (t : Trunk). t.net ≡ o.net) q.trunks o there refl) in
        let y : Key p pins = (o.net, has) in
        let is : trunk p pins q m y ≡ o = own o there has in
        apart_or_not o u.it (λ near. f.clear y (subst (λ (z : Trunk). z.track ≡ low) (sym is) same) (
          earlier_same _ _ _ _ (to_r y) (to_r k) (subst (λ (z : Trunk). IsEarlier z u.it) (sym is) early),
          λ apart. near (subst (λ (z : Trunk). AreApart z u.it) is (apart_same _ _ _ _ (to_q y) (to_q k) apart)),
        ));
  }),
)
  where
    u : Some' (λ (t : Trunk). t.net ≡ k.0) q.trunks
    u = found p pins q m k

    free : IsFree p pins q.trunks u.it u.it.track × ((low : ℕ) → low < u.it.track → IsFree p pins q.trunks u.it low → ⊥)
    free = tight u.it u.there

    to_q : (y : Key p pins) → SameSpan (trunk p pins r l y) (trunk p pins q m y)
    to_q y = same_span p pins r q l m y

    to_r : (y : Key p pins) → SameSpan (trunk p pins q m y) (trunk p pins r l y)
    to_r y = same_span p pins q r m l y

    own : (t : Trunk) → Contains q.trunks t → (has : HasTrunk p pins t.net) → trunk p pins q m (t.net, has) ≡ t
    own t there has = let f : Some' (λ (z : Trunk). z.net ≡ t.net) q.trunks = found p pins q m (t.net, has) in one_a_net q.trunks m.order f.it t f.there there f.holds

-- from the earliest trunk on
from_earliest : (p : Placement) (pins : Pins) (r : Routing) (l : IsLegal p pins r) (P : Key p pins → Type 0) → ((x : Key p pins) → ((y : Key p pins) → Early p pins r l y x → P y) → P x) → (x : Key p pins) → P x
from_earliest p pins r l P step x = by_left (suc (trunk p pins r l x).left) x (omega arith)
  where
    by_net : (n : ℕ) → ((y : Key p pins) → (trunk p pins r l y).left < n → P y) → (m : ℕ) (x : Key p pins) → (trunk p pins r l x).left < suc n → (trunk p pins r l x).net.0 < m → P x
    by_net n before zero x h less = absurd (omega (arith, less))
    by_net n before (suc m) x h less = step x (λ y early. next (by_net n before m) y early.0)
      where
        next : ((y : Key p pins) → (trunk p pins r l y).left < suc n → (trunk p pins r l y).net.0 < m → P y) → (y : Key p pins) → IsEarlier (trunk p pins r l y) (trunk p pins r l x) → P y
        next lesser y (inl e) = before y (omega (arith, e, h))
        next lesser y (inr (e, f)) = lesser y (omega (arith, e, h)) (omega (arith, f, less))

    by_left : (n : ℕ) (x : Key p pins) → (trunk p pins r l x).left < n → P x
    by_left zero x h = absurd (omega (arith, h))
    by_left (suc n) x h = by_net n (by_left n) (suc (trunk p pins r l x).net.0) x h (omega arith)

-- the routing q, where r tells what is earlier
keyed : (p : Placement) (pins : Pins) (r q : Routing) (l : IsLegal p pins r) (m : IsLegal p pins q) → IsTight p pins q → IsKeyed (Of p pins) (Over p pins) (Early p pins r l) (λ a b. a.net.0 < b.net.0) q
keyed p pins r q l m tight = record {
  each = λ k. record { it = trunk p pins q m k; there = (found p pins q m k).there; holds = is_of p pins q m k };
  key = λ t there. ((t.net, (m.nets t.net).1 (any_at (λ (z : Trunk). z.net ≡ t.net) q.trunks t there refl)), (refl, All-contains (λ (t : Trunk). IsSpan p t.net t.left t.right) q.trunks t m.spans there));
  one = λ k t there of. one_a_net q.trunks m.order (trunk p pins q m k) t (found p pins q m k).there there (let e : (trunk p pins q m k).net ≡ k.0 = (found p pins q m k).holds in let f : t.net ≡ k.0 = of.0 in cc);
  tight = tight_keys p pins r q l m tight;
  order = m.order;
  tracks = m.tracks;
  full = m.full;
}

pub one_routing : (p : Placement) (pins : Pins) (r s : Routing) → IsLegal p pins r → IsTight p pins r → IsLegal p pins s → IsTight p pins s → r ≡ s
one_routing p pins r s lr tr ls ts =
    same_routing (Of p pins) (Over p pins) (Early p pins r lr) (λ a b. a.net.0 < b.net.0) r s (from_earliest p pins r lr) (spans p pins) (λ a b e f. omega (arith, e, f)) (keyed p pins r r lr lr tr) (keyed p pins r s lr ls ts)
