use Rattle.std.proofs.Common.{ℕ, List, Ok, All, ◌≢◌, ap, inl, sym, subst, arith}
use Rattle.call_read.proofs.Desks.{came_bytes, only_refl, refused, short, taken}
use Rattle.call_read.specs.Read.{IsRead}
use Rattle.call_read.specs.Reading.{Ends, bytes_of}
use Rattle.call_read.specs.Sources.{SpiceFile}
use Rattle.call_words.specs.Asked.{RowAsked}
use Rattle.layout_commands.proofs.RowEnds.{row_same}
use Rattle.layout_commands.specs.Row.{row_of, rowing_over}
use Rattle.layout_commands.proofs.row_reading.read_over.Goals as goal

pub invariant_of-result : goal.invariant_of-result
invariant_of-result g c = record {
  tech = c.show_limits.ensures;
  few = c.into_bytes.ensures.few;
  top = c.in_ok-top.ensures.cell;
  some = omega (arith, c.in_ok-names.ensures.some);
  most = c.in_ok-names.ensures.few;
  names = c.in_ok-names.ensures.cells;
  apart = subst (λ top. All (λ name. name ≢ top) c.in_ok-names.names) (sym c.in_ok-top.ensures.lower) c.in_ok-names.ensures.apart;
}

pub returns-in_err-spice-clause-comes : goal.returns-in_err-spice-clause-comes
returns-in_err-spice-clause-comes g c =
    refused (g.D.Desk.view c.args.desk.now) (g.D.Desk.view c.read_file.new.desk) (g.D.Desk.view c.read_file.new.desk)
    (bytes_of (SpiceFile c.args.asked.now.spice)) (λ (bytes : List ℕ). Ends (Ok (row_of c.args.asked.now c.args.tech bytes))) c.read_file.result c.in_err-spice.field-0.0 c.from_residual.result
    (only_refl (g.D.Desk.view c.read_file.new.desk))
    (came_bytes (g.D.Desk.view c.args.desk.now) (g.D.Desk.view c.read_file.new.desk) (SpiceFile c.args.asked.now.spice) c.read_file.result (subst (λ (spice : List ℕ). IsRead (g.D.Desk.view c.args.desk.now) (g.D.Desk.view c.read_file.new.desk) (SpiceFile spice) c.read_file.result) (ap (λ (x : RowAsked). x.spice) c.asked.view_is) c.read_file.ensures.reads))
    c.in_err-spice.was
    c.from_residual.ensures

pub returns-in_err-top-clause-comes : goal.returns-in_err-top-clause-comes
returns-in_err-top-clause-comes g c =
    short (g.D.Desk.view c.args.desk.now) (g.D.Desk.view c.read_file.new.desk) (rowing_over c.args.asked.now c.args.tech) c.from_residual-in_err-top.result c.from_residual-in_err-top.ensures

pub returns-in_err-names-clause-comes : goal.returns-in_err-names-clause-comes
returns-in_err-names-clause-comes g c =
    short (g.D.Desk.view c.args.desk.now) (g.D.Desk.view c.read_file.new.desk) (rowing_over c.args.asked.now c.args.tech) c.from_residual-in_err-names.result c.from_residual-in_err-names.ensures

pub returns-clause-comes : goal.returns-clause-comes
returns-clause-comes g c =
    taken (g.D.Desk.view c.args.desk.now) (g.D.Desk.view c.read_file.new.desk) (g.D.Desk.view c.read_file.new.desk)
    (bytes_of (SpiceFile c.args.asked.now.spice)) (λ (bytes : List ℕ). Ends (Ok (row_of c.args.asked.now c.args.tech bytes))) c.read_file.result c.in_ok-spice.spice (Ok _)
    c.read_file.ensures.only
    (only_refl (g.D.Desk.view c.read_file.new.desk))
    (came_bytes (g.D.Desk.view c.args.desk.now) (g.D.Desk.view c.read_file.new.desk) (SpiceFile c.args.asked.now.spice) c.read_file.result (subst (λ (spice : List ℕ). IsRead (g.D.Desk.view c.args.desk.now) (g.D.Desk.view c.read_file.new.desk) (SpiceFile spice) c.read_file.result) (ap (λ (x : RowAsked). x.spice) c.asked.view_is) c.read_file.ensures.reads))
    c.in_ok-spice.was
    (inl (row_same c.args.asked.now c.args.tech c.in_ok-spice.spice c.into_bytes.result c.in_ok-top.top c.in_ok-names.names c.asked.inside.choice c.into_bytes.ensures.bytes c.in_ok-top.ensures.lower c.in_ok-names.ensures.lower (ap (λ (x : RowAsked). x.choice) c.asked.view_is)))
