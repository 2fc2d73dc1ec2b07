-- Labels that do not agree: two names in one net, or one name in two nets.
use Rattle.std.proofs.Common.{◌≡◌, ℕ, Bool, true, false, not, ◌&&◌, ◌==◌, cond, List, [], ◌∷◌, Option, Some, None, inl, inr, refl, sym, subst, ◌∙◌}
use Rattle.std.specs.List.{Contains, AllZip, filter, find}
use Rattle.std.specs.Option.{option_map}
use Rattle.std.specs.Str.{bytes_eq}
use Rattle.std.proofs.lemmas.Bool.{and_parts, not-true}
use Rattle.std.proofs.lemmas.Bool.Decides.{Decides-eqb}
use Rattle.std.proofs.lemmas.Slice.Eq.{bytes_eq-Decides}
use Rattle.cell_num.proofs.Lists.{contains_none, contains_cons, contains_here, contains_there}
use Rattle.box_geom.specs.declared.shape.Label.{Label}
use Rattle.box_geom.specs.declared.shape.Shape.{Shape}
use Rattle.scmos_rules.specs.declared.rules.Deck.{Deck}
use Rattle.net_extract.specs.declared.naming.NetLabel.{NetLabel}
use Rattle.net_extract.specs.Labels.{is_conductor, conductor_labels, IsNetLabel, AreNetLabels}
use Rattle.net_extract.specs.Naming.{first_other, other_than, stands_elsewhere, IsShort, IsSplit}
use Rattle.net_extract.specs.Nets.{Site}
use Rattle.net_extract.proofs.Finding.{found, any_of}

-- two labels of one net with different names
pub record AreShort (held : List NetLabel) : Type 0 where
  pub one : NetLabel
  pub other : NetLabel
  pub has_one : Contains held one
  pub has_other : Contains held other
  pub net : one.net ≡ other.net
  pub names : one.name ≡ other.name → ⊥

-- two labels of one name in different nets
pub record AreSplit (held : List NetLabel) : Type 0 where
  pub one : NetLabel
  pub other : NetLabel
  pub has_one : Contains held one
  pub has_other : Contains held other
  pub name : one.name ≡ other.name
  pub nets : one.net ≡ other.net → ⊥

-- what is mapped
record Mapped {X Y : Type 0} (f : X → Y) (o : Option X) (y : Y) : Type 0 where
  of : X
  some : o ≡ Some of
  is : f of ≡ y

mapped : {X Y : Type 0} (f : X → Y) (o : Option X) (y : Y) → option_map f o ≡ Some y → Mapped f o y
mapped f None y e = absurd cc
mapped f (Some x) y e = record { of = x; some = refl; is = cc }

other_found : (held : List NetLabel) (net : ℕ) (one other : List ℕ) → first_other one net held ≡ Some other → (h : NetLabel) × Contains held h × (h.net ≡ net) × (h.name ≡ other) × (h.name ≡ one → ⊥)
other_found held net one other e =
    let m = mapped (λ (h : NetLabel). h.name) (find (λ (h : NetLabel). (h.net == net) && not (bytes_eq h.name one)) held) other e in
    let p = found (λ (h : NetLabel). (h.net == net) && not (bytes_eq h.name one)) held m.of m.some in
    let (same, differs) = and_parts (m.of.net == net) (not (bytes_eq m.of.name one)) p.passes in (
      m.of,
      p.listed,
      (Decides-eqb m.of.net net).0 same,
      m.is,
      λ f.
          let t : bytes_eq m.of.name one ≡ true = (bytes_eq-Decides m.of.name one).1 f in
          let n : bytes_eq m.of.name one ≡ false = not-true (bytes_eq m.of.name one) differs in
          cc,
    )

pub short_held : (held : List NetLabel) (count : ℕ) (one other : List ℕ) → IsShort held count one other → AreShort held
short_held held count one other s =
    let m = mapped (λ (h : NetLabel). h.name) (find (λ (h : NetLabel). h.net == s.net) held) one s.first in
    let p = found (λ (h : NetLabel). h.net == s.net) held m.of m.some in
    let (h, listed, net, name, differs) = other_found held s.net one other (subst (λ o. other_than o s.net held ≡ Some other) s.first s.differs) in
    record {
      one = m.of;
      other = h;
      has_one = p.listed;
      has_other = listed;
      net = (Decides-eqb m.of.net s.net).0 p.passes ∙ sym net;
      names = λ e. differs (sym e ∙ m.is);
    }

pub split_held : (held : List NetLabel) (count : ℕ) (name : List ℕ) → IsSplit held count name → AreSplit held
split_held held count name s =
    let m = mapped (λ (h : NetLabel). h.name) (find (stands_elsewhere held) held) name s.split in
    let p = found (stands_elsewhere held) held m.of m.some in
    let q = any_of (λ (h : NetLabel). not (h.net == m.of.net) && bytes_eq h.name m.of.name) held p.passes in
    let (other, same) = and_parts (not (q.it.net == m.of.net)) (bytes_eq q.it.name m.of.name) q.passes in
    record {
      one = q.it;
      other = m.of;
      has_one = q.listed;
      has_other = p.listed;
      name = (bytes_eq-Decides q.it.name m.of.name).0 same;
      nets = λ e.
          let t : (q.it.net == m.of.net) ≡ true = (Decides-eqb q.it.net m.of.net).1 e in
          let n : (q.it.net == m.of.net) ≡ false = not-true (q.it.net == m.of.net) other in
          cc;
    }

of_filter : {X : Type 0} (p : X → Bool) (xs : List X) (x : X) → Contains (filter p xs) x → Contains xs x
of_filter p [] x c = absurd (contains_none x c)
of_filter {X} p (y ∷ ys) x c = by (p y) c (of_filter p ys x)
  where
    by : (b : Bool) → Contains (cond b (y ∷ filter p ys) (filter p ys)) x → (Contains (filter p ys) x → Contains ys x) → Contains (y ∷ ys) x
    by true d rest = elim (contains_cons y (filter p ys) x d) [
      | inl e ↦ subst (Contains (y ∷ ys)) e (contains_here y ys)
      | inr r ↦ contains_there y ys x (rest r)
    ]
    by false d rest = contains_there y ys x (rest d)

pub conductor_label : (labels : List Label) (l : Label) → Contains (conductor_labels labels) l → Contains labels l
conductor_label labels l c = of_filter (λ (z : Label). is_conductor z.layer) labels l c

-- the one that stands opposite
opposite : {X Y : Type 0} (R : X → Y → Type 0) (xs : List X) (ys : List Y) (y : Y) → AllZip R xs ys → Contains ys y → (x : X) × Contains xs x × R x y
opposite R xs [] y z c = absurd (contains_none y c)
opposite R [] (w ∷ ws) y z c = absurd z
opposite R (x ∷ xs) (w ∷ ws) y z c =
    elim (contains_cons w ws y c) [
      | inl e ↦ (x, contains_here x xs, subst (R x) e z.0)
      | inr later ↦ let (u, listed, r) = opposite R xs ws y z.1 later in (u, contains_there x xs u listed, r)
    ]

pub facing : {X Y : Type 0} (R : X → Y → Type 0) (xs : List X) (ys : List Y) (x : X) → AllZip R xs ys → Contains xs x → (y : Y) × R x y
facing R [] ys x z c = absurd (contains_none x c)
facing R (w ∷ ws) [] x z c = absurd z
facing R (w ∷ ws) (y ∷ ys) x z c =
    elim (contains_cons w ws x c) [
      | inl e ↦ (y, subst (λ v. R v y) e z.0)
      | inr later ↦ facing R ws ys x z.1 later
    ]

-- a held label is one of the drawing's
pub label_held : (deck : Deck) (s : List Shape) (firsts : List Site) (labels : List Label) (held : List NetLabel) (h : NetLabel) → AreNetLabels deck s firsts labels held → Contains held h → (l : Label) × Contains labels l × IsNetLabel deck s firsts l h
label_held deck s firsts labels held h all c =
    let (l, listed, is) = opposite (IsNetLabel deck s firsts) (conductor_labels labels) held h all c in
    (l, conductor_label labels l listed, is)
