-- What a contact or a via links is of one net.
use Rattle.std.proofs.Common.{◌≡◌, ℕ, Option, Some, None, ◌≤◌, ℤ, pos, ◌≤ℤ◌, ◌<ℤ◌, ◌+ℤ◌, ◌-ℤ◌, arith, refl, sym, subst}
use Rattle.std.proofs.lemmas.Int.{ints}
use Rattle.cell_num.specs.declared.finger.Row.{Row}
use Rattle.cell_num.specs.declared.finger.Row.TheVariants.{P, N}
use Rattle.box_geom.specs.Rectangle.{Holds}
use Rattle.net_extract.specs.Nets.{IsLower, of_p, of_n, of_poly}
use Rattle.net_extract.specs.declared.piece.Conductor.TheVariants.{Metal1, Metal2}
use Rattle.net_extract.specs.Devices.{diffusion_of}
use Rattle.cell_draw.specs.declared.layout.Frame.{Frame}
use Rattle.cell_draw.specs.declared.layout.Layout.{Layout}
use Rattle.cell_draw.specs.Shapes.{strap, branch as branch_shape}
use Rattle.cell_draw.specs.Laid.{IsFrame, GoesTo, IsOnBar, IsMet, IsLaid}
use Rattle.cell_draw.proofs.NetsFacts.{IsNetted}
use Rattle.cell_draw.proofs.NetsWires.{Wire, metal, branch, gate, pad, kind_of, rect_of, net_of, IsWire}
use Rattle.cell_draw.proofs.RulesActive.{pad_in}
use Rattle.cell_draw.proofs.RulesContacts.{Cut, node_of, gate_of, IsCut, cut_rect, node_in}
use Rattle.cell_draw.proofs.RulesMetal1.{strap_of, bar_of}
use Rattle.cell_draw.proofs.RulesMetal2.{reach_in}
use Rattle.cell_draw.proofs.RulesPlaces.{InChannel}
use Rattle.cell_draw.proofs.RulesPoly.{pad_of}
use Rattle.cell_draw.proofs.RulesVias.{ViaPlace, landing_of, meeting_of, IsViaPlace, via_rect, landing_in, bar_in}

-- ---- contacts and vias
-- an upper and a lower piece of one net in a cell
pub record IsLinked (l : Layout) (n : IsNetted l) (x y : ℤ) : Type 0 where
  pub upper : Wire
  pub lower : Wire
  pub is_upper : IsWire l upper
  pub is_lower : IsWire l lower
  pub in_upper : Holds (rect_of l n upper) x y
  pub in_lower : Holds (rect_of l n lower) x y
  pub same : net_of l n upper ≡ net_of l n lower

-- at a contact the upper piece is of metal1, the lower one of diffusion or poly
pub record IsLinkedBelow (l : Layout) (n : IsNetted l) (x y : ℤ) : Type 0 where
  pub link : IsLinked l n x y
  pub high : kind_of link.upper ≡ Metal1
  pub low : IsLower (kind_of link.lower)

-- at a via the upper piece is of metal2, the lower one of metal1
pub record IsLinkedAbove (l : Layout) (n : IsNetted l) (x y : ℤ) : Type 0 where
  pub link : IsLinked l n x y
  pub high : kind_of link.upper ≡ Metal2
  pub low : kind_of link.lower ≡ Metal1

pub lower_row : (row : Row) → IsLower (diffusion_of row)
lower_row N = of_n
lower_row P = of_p

pub strap_over : (f : Frame) (k : ℕ) → IsFrame f k → (row : Row) (z : ℕ) (o : Option ℕ) (x y : ℤ) → Holds (node_in f row z).rect x y → Holds (strap f row z o).rect x y
strap_over f k fr N z None x y h = omega (arith, ints)
strap_over f k fr N z (Some r) x y h = omega (arith, ints)
strap_over f k fr P z None x y h = omega (arith, ints)
strap_over f k fr P z (Some r) x y h = omega (arith, ints)

pub pad_around : (f : Frame) (row : Row) (z : ℕ) (x y : ℤ) → Holds (node_in f row z).rect x y → Holds (pad_in f row z).rect x y
pad_around f N z x y h = omega (arith, ints)
pad_around f P z x y h = omega (arith, ints)

pub cut_links : (l : Layout) (w : IsLaid l) (n : IsNetted l) (a : Cut) → IsCut l a → (x y : ℤ) → Holds (cut_rect l a) x y → IsLinkedBelow l n x y
cut_links l w n (node_of c) h x y i = record {
  link = record {
    upper = metal (strap_of c);
    lower = pad c;
    is_upper = h;
    is_lower = h;
    in_upper = strap_over l.frame w.tracks w.frame c.row c.x c.reach x y i;
    in_lower = pad_around l.frame c.row c.x x y i;
    same = refl;
  };
  high = refl;
  low = lower_row c.row;
}
cut_links l w n (gate_of g t) h x y i =
    let on : IsOnBar l g.net g.x t = w.pads g t h.listed h.track in
    let left : on.bar.left ≤ g.x = on.left in
    let right : g.x ≤ on.bar.right = on.right in
    let track : on.bar.y ≡ t = on.track in
    record {
      link = record {
        upper = metal (bar_of on.bar);
        lower = gate (pad_of g t);
        is_upper = on.listed;
        is_lower = h;
        in_upper = omega (arith, ints);
        in_lower = omega (arith, ints);
        same = on.of;
      };
      high = refl;
      low = of_poly;
    }

pub landing_strap : (f : Frame) (k : ℕ) → IsFrame f k → (row : Row) (z r : ℕ) (x y : ℤ) → Holds (landing_in f row z).rect x y → Holds (strap f row z (Some r)).rect x y
landing_strap f k fr N z r x y h = omega (arith, ints)
landing_strap f k fr P z r x y h = omega (arith, ints)

pub landing_branch : (f : Frame) (row : Row) (z r : ℕ) → InChannel f r → (x y : ℤ) → Holds (landing_in f row z).rect x y → Holds (branch_shape f row z r).rect x y
landing_branch f N z r c x y h = omega (arith, ints)
landing_branch f P z r c x y h = omega (arith, ints)

-- the branch of a signal holds the via on a bar that it reaches
pub branch_meets : (f : Frame) (row : Row) (z r t : ℕ) → InChannel f t → GoesTo row r t → (x y : ℤ) → (pos z -ℤ pos 2) ≤ℤ x → x <ℤ (pos z +ℤ pos 2) → (pos t -ℤ pos 2) ≤ℤ y → y <ℤ (pos t +ℤ pos 2) → Holds (branch_shape f row z r).rect x y
branch_meets f N z r t c goes x y a b d e = omega (arith, ints)
branch_meets f P z r t c goes x y a b d e = omega (arith, ints)

pub via_links : (l : Layout) (w : IsLaid l) (n : IsNetted l) (a : ViaPlace) → IsViaPlace l a → (x y : ℤ) → Holds (via_rect l a) x y → IsLinkedAbove l n x y
via_links l w n (landing_of s) h x y i = record {
  link = record {
    upper = branch s;
    lower = metal (strap_of s.contact);
    is_upper = h;
    is_lower = h.listed;
    in_upper = landing_branch l.frame s.contact.row s.contact.x s.reach (reach_in l w s h) x y i;
    in_lower = subst (λ o. Holds (strap l.frame s.contact.row s.contact.x o).rect x y) (sym h.signal) (landing_strap l.frame w.tracks w.frame s.contact.row s.contact.x s.reach x y i);
    same = refl;
  };
  high = refl;
  low = refl;
}
via_links l w n (meeting_of b z) h x y i =
    let m : IsMet l b z = w.vias b z h.listed h.line in
    let at : m.contact.x ≡ z = m.at in
    let left : b.left ≤ z = m.left in
    let right : z ≤ b.right = m.right in
    record {
      link = record {
        upper = branch (record { contact = m.contact; reach = m.reach });
        lower = metal (bar_of b);
        is_upper = record { listed = m.listed; signal = m.signal };
        is_lower = h.listed;
        in_upper = branch_meets l.frame m.contact.row m.contact.x m.reach b.y (bar_in l w b h.listed) m.goes x y (omega (arith, ints)) (omega (arith, ints)) (omega (arith, ints)) (omega (arith, ints));
        in_lower = omega (arith, ints);
        same = m.net;
      };
      high = refl;
      low = refl;
    }
