use Rattle.std.proofs.Common.{rules, ◌≡◌, ap, ◌∙◌, ℕ, List}
use Rattle.fewer_log.specs.Reading.{fewer_of}
use Rattle.fewer_log.specs.Text.{fewer_text}
use Rattle.fewer_log.proofs.Whole.{fewer_again}
use Rattle.fewer_log.proofs.write.write_fewer.Goals as goal

pub returns-in_default-clause-reads : goal.returns-in_default-clause-reads
returns-in_default-clause-reads c =
    let text : c.in_ok-pools.pools.items ≡ fewer_text c.args.name.now c.args.certificate.now = search rules in
    λ k some fits. ap (λ (t : List ℕ). fewer_of t c.args.name.now k) text ∙ fewer_again c.args.name.now k c.args.certificate.now c.requires.name some fits

pub returns-clause-reads : goal.returns-clause-reads
returns-clause-reads c =
    let text : c.into_vec.result.items ≡ fewer_text c.args.name.now c.args.certificate.now = search rules in
    λ k some fits. ap (λ (t : List ℕ). fewer_of t c.args.name.now k) text ∙ fewer_again c.args.name.now k c.args.certificate.now c.requires.name some fits
