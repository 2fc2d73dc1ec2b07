use Rattle.order_log.proofs.Heads.{head_behind}
use Rattle.order_log.proofs.write.put_head.Goals as goal

pub returns : goal.returns
returns c =
    rw (c.in_ok-extend-4.ensures.ok, c.in_ok-extend-3.ensures.ok, c.as_slice.ensures, c.in_ok-extend-2.ensures.ok, c.in_ok-extend.ensures.ok) (head_behind c.args.out.now c.args.version.now c.args.name.now)
