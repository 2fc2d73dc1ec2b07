-- Tests of the gates of a certificate.
use Rattle.std.specs.Prelude.{ℕ, Bool, true, not, ◌&&◌, ◌||◌, ◌==◌, ltb, List, [], ◌∷◌}
use Rattle.std.specs.List.{list_all, list_any}
use Rattle.cell_num.specs.declared.net.NetNo.{NetNo}
use Rattle.cell_num.specs.declared.finger.Finger.{Finger}
use Rattle.cell_num.specs.declared.finger.Fingers.{Fingers}
use Rattle.cell_num.specs.Fingers.{on_gate}
use Rattle.open_gates.specs.Open.{have_more}
use Rattle.trail_check.specs.Leveled.{open_of}
use Rattle.trail_log.specs.declared.trails.TrailCertificate.{TrailCertificate}

abbrev pub has_gate : List NetNo → ℕ → Bool
has_gate gates gate = list_any (λ (g : NetNo). g.0 == gate) gates

abbrev pub are_once : List NetNo → Bool
are_once [] = true
are_once (g ∷ gs) = not (has_gate gs g.0) && are_once gs

abbrev pub is_gate : Fingers → NetNo → Bool
is_gate f g = ltb 0 (on_gate g.0 f.p) || ltb 0 (on_gate g.0 f.n)

abbrev pub are_ordered : List NetNo → List Finger → Bool
are_ordered order fingers = list_all (λ (x : Finger). has_gate order x.gate.0) fingers

abbrev pub is_order : Fingers → List NetNo → Bool
is_order f order = are_once order && list_all (is_gate f) order && are_ordered order f.p && are_ordered order f.n

abbrev pub gates_test : Fingers → TrailCertificate → Bool
gates_test f trails = is_order f trails.order && have_more f (open_of f trails)
