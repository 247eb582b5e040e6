-- The byte is kept where there is room for it.
use Rattle.desk.proofs.Feeding.{keeps-room, keeps-none}
use Rattle.desk.proofs.desk.Desk.keep.Goals as goal
use Rattle.desk.proofs.desk.Desk.keep.Goals.{then-self-lt-KEPT, else-self-lt-KEPT}

pub returns : goal.returns
returns c =
    elim c.if-self-lt-KEPT.branch [
      | then-self-lt-KEPT w ↦ keeps-room c.args.self.now _ c.args.b w.if-self-lt-KEPT.true w.self-is
      | else-self-lt-KEPT w ↦ keeps-none c.args.self.now _ c.args.b w.if-self-lt-KEPT.false w.self-is
    ]
