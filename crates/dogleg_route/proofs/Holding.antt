-- The piece of a net that holds a line.
use Rattle.std.proofs.Common.{ℕ, zero, suc, ◌≡◌, ◌+◌, ◌<◌, ◌≤◌, ◌⊎◌, List, [], ◌∷◌, inl, inr, refl, subst, arith, All, Contains}
use Rattle.std.proofs.lemmas.Bool.{cases_lt}
use Rattle.std.proofs.lemmas.List.Elements.{All-nil, All-cons, All-contains}
use Rattle.cell_num.specs.declared.net.NetNo.{NetNo}
use Rattle.cell_num.specs.declared.net.Pins.{Pins}
use Rattle.cell_num.proofs.Lists.{contains_none, contains_here, contains_there, all_imply}
use Rattle.row_place.specs.declared.placement.Placement.{Placement}
use Rattle.row_place.specs.Trunks.{lines_of, HasTrunk, IsSpan}
use Rattle.dogleg_route.specs.Pieces.{IsLast, IsMark, IsPiece}
use Rattle.dogleg_route.proofs.Marks.{NextPiece, next_piece}

-- the ends of a list of lines
pub record Ends (xs : List ℕ) : Type 0 where
  pub first : ℕ
  pub first_there : Contains xs first
  pub none_before : All (λ z. first ≤ z) xs
  pub last : ℕ
  pub last_there : Contains xs last
  pub none_behind : All (λ z. z ≤ last) xs

ends_more : (x : ℕ) (xs : List ℕ) → Ends xs → Ends (x ∷ xs)
ends_more x xs e = by (cases_lt x e.first) (cases_lt e.last x)
  where
    by : (x < e.first) ⊎ (e.first ≤ x) → (e.last < x) ⊎ (x ≤ e.last) → Ends (x ∷ xs)
    by (inl low) (inl high) = absurd (omega (arith, low, high, All-contains (λ z. e.first ≤ z) xs e.last e.none_before e.last_there))
    by (inl low) (inr in_front) = record {
      first = x;
      first_there = contains_here x xs;
      none_before = All-cons (λ z. x ≤ z) x xs (omega arith) (all_imply (λ z. e.first ≤ z) (λ z. x ≤ z) xs (λ z f. omega (arith, f, low)) e.none_before);
      last = e.last;
      last_there = contains_there x xs e.last e.last_there;
      none_behind = All-cons (λ z. z ≤ e.last) x xs in_front e.none_behind;
    }
    by (inr back) (inl high) = record {
      first = e.first;
      first_there = contains_there x xs e.first e.first_there;
      none_before = All-cons (λ z. e.first ≤ z) x xs back e.none_before;
      last = x;
      last_there = contains_here x xs;
      none_behind = All-cons (λ z. z ≤ x) x xs (omega arith) (all_imply (λ z. z ≤ e.last) (λ z. z ≤ x) xs (λ z f. omega (arith, f, high)) e.none_behind);
    }
    by (inr back) (inr in_front) = record {
      first = e.first;
      first_there = contains_there x xs e.first e.first_there;
      none_before = All-cons (λ z. e.first ≤ z) x xs back e.none_before;
      last = e.last;
      last_there = contains_there x xs e.last e.last_there;
      none_behind = All-cons (λ z. z ≤ e.last) x xs in_front e.none_behind;
    }

ends_of : (x : ℕ) (xs : List ℕ) → Ends (x ∷ xs)
ends_of x [] = record {
  first = x;
  first_there = contains_here x [];
  none_before = All-cons (λ z. x ≤ z) x [] (omega arith) (All-nil (λ z. x ≤ z));
  last = x;
  last_there = contains_here x [];
  none_behind = All-cons (λ z. z ≤ x) x [] (omega arith) (All-nil (λ z. z ≤ x));
}
ends_of x (y ∷ ys) = ends_more x (y ∷ ys) (ends_of y ys)

ends_at_all : (xs : List ℕ) (x : ℕ) → Contains xs x → Ends xs
ends_at_all [] x there = absurd (contains_none x there)
ends_at_all (y ∷ ys) x there = ends_of y ys

-- the last line of a net that has a place at a line
pub record LastOf (p : Placement) (net : NetNo) (line : ℕ) : Type 0 where
  pub last : ℕ
  pub is : IsLast p net last
  pub low : line ≤ last

pub last_of : (p : Placement) (net : NetNo) (line : ℕ) → Contains (lines_of p net) line → LastOf p net line
last_of p net line there =
    let e : Ends (lines_of p net) = ends_at_all (lines_of p net) line there in
    record { last = e.last; is = record { place = e.last_there; none_behind = e.none_behind }; low = All-contains (λ z. z ≤ e.last) (lines_of p net) line e.none_behind there }

-- the piece that holds a line
pub record HeldBy (p : Placement) (pins : Pins) (net : NetNo) (line : ℕ) : Type 0 where
  pub left : ℕ
  pub right : ℕ
  pub piece : IsPiece p pins net left right
  pub begins : left ≤ line
  pub ends : line ≤ right

held_from : (p : Placement) (pins : Pins) (net : NetNo) (last line : ℕ) → HasTrunk p pins net → IsLast p net last → line ≤ last → (n m : ℕ) → IsMark p net m → m ≤ line → line < m + n → m < last → HeldBy p pins net line
held_from p pins net last line trunk end within zero m mark low fuel less = absurd (omega (arith, low, fuel))
held_from p pins net last line trunk end within (suc n) m mark low fuel less =
    let next : NextPiece p pins net m last = next_piece p pins net m last trunk mark end less in
    elim (cases_lt next.at line) [
      | inr held ↦ record { left = m; right = next.at; piece = next.piece; begins = low; ends = held }
      | inl more ↦ held_from p pins net last line trunk end within n next.at next.piece.ends (omega (arith, more)) (omega (arith, fuel, next.beyond)) (omega (arith, more, within))
    ]

-- of a line within the span of a net
pub piece_over : (p : Placement) (pins : Pins) (net : NetNo) (first last line : ℕ) → HasTrunk p pins net → IsSpan p net first last → first ≤ line → line ≤ last → HeldBy p pins net line
piece_over p pins net first last line trunk span low high = by (cases_lt first last)
  where
    by : (first < last) ⊎ (last ≤ first) → HeldBy p pins net line
    by (inl less) =
        held_from p pins net last line trunk (record { place = span.ends; none_behind = span.none_behind }) high (suc line) first (inl (record { place = span.begins; none_before = span.none_before })) low (omega arith) less
    by (inr most) =
        let one : last ≡ first = omega (arith, most, low, high) in
        record {
          left = first;
          right = first;
          piece = record {
            trunk = trunk;
            begins = inl (record { place = span.begins; none_before = span.none_before });
            ends = inl (record { place = span.begins; none_before = span.none_before });
            range = inr (refl, subst (λ z. IsSpan p net first z) one span);
            none_between = λ k mark up down. absurd (omega (arith, up, down));
          };
          begins = low;
          ends = omega (arith, high, one);
        }

-- of a line of the places of a net
pub piece_at : (p : Placement) (pins : Pins) (net : NetNo) (line : ℕ) → HasTrunk p pins net → Contains (lines_of p net) line → HeldBy p pins net line
piece_at p pins net line trunk there =
    let e : Ends (lines_of p net) = ends_at_all (lines_of p net) line there in
    piece_over p pins net e.first e.last line trunk (record { begins = e.first_there; ends = e.last_there; none_before = e.none_before; none_behind = e.none_behind })
    (All-contains (λ z. e.first ≤ z) (lines_of p net) line e.none_before there) (All-contains (λ z. z ≤ e.last) (lines_of p net) line e.none_behind there)
