-- How contacts, fingers, gates and tracks of a layout lie to each other.
use Rattle.std.proofs.Common.{◌≡◌, ℕ, ◌+◌, ◌≤◌, arith, inl, inr, ◌⊎◌, refl}
use Rattle.std.specs.List.{Contains}
use Rattle.std.proofs.lemmas.Bool.{cases_order}
use Rattle.cell_num.specs.declared.finger.Row.{Row}
use Rattle.cell_num.specs.declared.finger.Row.TheVariants.{P, N}
use Rattle.cell_draw.specs.declared.layout.Frame.{Frame}
use Rattle.cell_draw.specs.declared.layout.Strip.{Strip}
use Rattle.cell_draw.specs.declared.layout.Contact.{Contact}
use Rattle.cell_draw.specs.declared.layout.Layout.{Layout}
use Rattle.cell_draw.specs.Laid.{IsFrame, IsTrack, AreFar, Follows, IsLaid}

-- a height at least 20 from both edges of the channel
pub record InChannel (f : Frame) (y : ℕ) : Type 0 where
  pub low : f.n_edge + 20 ≤ y
  pub high : y + 20 ≤ f.p_edge

pub in_channel : (f : Frame) (k y : ℕ) → IsFrame f k → IsTrack f k y → InChannel f y
in_channel f k y fr t = omega arith

-- two tracks are one, or 16 apart
pub two_tracks : (f : Frame) (k y z : ℕ) → IsTrack f k y → IsTrack f k z → (y ≡ z) ⊎ AreFar 16 y z
two_tracks f k y z s t =
    elim (cases_order s.number t.number) [
      | inl same ↦ inl (omega arith)
      | inr (inl less) ↦ inr (inl (omega arith))
      | inr (inr more) ↦ inr (inr (omega arith))
    ]

-- two rows are one, or the N and the P row
pub data TwoRows (r s : Row) : Type 0 where
  one_row : r ≡ s → TwoRows r s
  n_and_p : r ≡ N → s ≡ P → TwoRows r s
  p_and_n : r ≡ P → s ≡ N → TwoRows r s

pub two_rows : (r s : Row) → TwoRows r s
two_rows N N = one_row refl
two_rows N P = n_and_p refl refl
two_rows P N = p_and_n refl refl
two_rows P P = one_row refl

-- two contacts are one, stand far apart, or face each other at one line
pub data TwoContacts (a b : Contact) : Type 0 where
  one_contact : a ≡ b → TwoContacts a b
  far_contacts : AreFar 16 a.x b.x → TwoContacts a b
  n_below_p : a.row ≡ N → b.row ≡ P → a.x ≡ b.x → TwoContacts a b
  p_above_n : a.row ≡ P → b.row ≡ N → a.x ≡ b.x → TwoContacts a b

pub two_contacts : (l : Layout) → IsLaid l → (a b : Contact) → Contains l.contacts a → Contains l.contacts b → TwoContacts a b
two_contacts l w a b la lb =
    elim (w.spread a b la lb) [
      | inr far ↦ far_contacts far
      | inl line ↦ elim (two_rows a.row b.row) [
        | one_row e ↦ one_contact (w.single a b la lb e line)
        | n_and_p e f ↦ n_below_p e f line
        | p_and_n e f ↦ p_above_n e f line
      ]
    ]

-- two fingers are one, stand in two rows, or one follows the other
pub data TwoStrips (a b : Strip) : Type 0 where
  one_strip : a ≡ b → TwoStrips a b
  after : a.row ≡ b.row → Follows a b → TwoStrips a b
  before : a.row ≡ b.row → Follows b a → TwoStrips a b
  n_under_p : a.row ≡ N → b.row ≡ P → TwoStrips a b
  p_over_n : a.row ≡ P → b.row ≡ N → TwoStrips a b

pub two_strips : (l : Layout) → IsLaid l → (a b : Strip) → Contains l.strips a → Contains l.strips b → TwoStrips a b
two_strips l w a b la lb =
    elim (two_rows a.row b.row) [
      | n_and_p e f ↦ n_under_p e f
      | p_and_n e f ↦ p_over_n e f
      | one_row e ↦ elim (w.ordered a b la lb e) [
        | inl same ↦ one_strip same
        | inr (inl next) ↦ after e next
        | inr (inr next) ↦ before e next
      ]
    ]
