-- Too small a buffer, a slip that no text carries, or its text at the front of the buffer.
use Rattle.texts.specs.Bounds.{slip_room}
use Rattle.texts.specs.Slip.{slip_write_answer}
use Rattle.texts.proofs.WritingTexts.{small, unfit, put, slip-writable, slip-fine, slip-unfit}
use Rattle.texts.proofs.slip.write_slip.Goals as goal

pub returns-then-buffer-lt-SLIP_ROOM-clause-answer : goal.returns-then-buffer-lt-SLIP_ROOM-clause-answer
unfolding slip_write_answer
returns-then-buffer-lt-SLIP_ROOM-clause-answer c =
    (small slip_room _ _ _ c.if-buffer-lt-SLIP_ROOM.true).0

pub returns-then-buffer-lt-SLIP_ROOM-clause-bytes : goal.returns-then-buffer-lt-SLIP_ROOM-clause-bytes
unfolding slip_write_answer
returns-then-buffer-lt-SLIP_ROOM-clause-bytes c =
    (small slip_room _ _ _ c.if-buffer-lt-SLIP_ROOM.true).1

pub returns-then-not-fits-clause-answer : goal.returns-then-not-fits-clause-answer
unfolding slip_write_answer
returns-then-not-fits-clause-answer c =
    (unfit slip_room _ _ _ c.if-buffer-lt-SLIP_ROOM.false (slip-unfit _ _ c.fits.ensures c.if-not-fits.true)).0

pub returns-then-not-fits-clause-bytes : goal.returns-then-not-fits-clause-bytes
unfolding slip_write_answer
returns-then-not-fits-clause-bytes c =
    (unfit slip_room _ _ _ c.if-buffer-lt-SLIP_ROOM.false (slip-unfit _ _ c.fits.ensures c.if-not-fits.true)).1

pub put_slip-requires : goal.put_slip-requires
put_slip-requires c = slip-writable _ _ _ c.if-buffer-lt-SLIP_ROOM.false c.fits.ensures c.if-not-fits.false

pub returns-clause-answer : goal.returns-clause-answer
unfolding slip_write_answer
returns-clause-answer c =
    (put slip_room _ _ _ c.if-buffer-lt-SLIP_ROOM.false (slip-fine _ _ c.fits.ensures c.if-not-fits.false) c.put_slip.ensures).0

pub returns-clause-bytes : goal.returns-clause-bytes
unfolding slip_write_answer
returns-clause-bytes c =
    (put slip_room _ _ _ c.if-buffer-lt-SLIP_ROOM.false (slip-fine _ _ c.fits.ensures c.if-not-fits.false) c.put_slip.ensures).1
