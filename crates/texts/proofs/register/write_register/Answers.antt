-- Too small a buffer, a register that is refused, or its text at the front of the buffer.
use Rattle.texts.specs.Bounds.{register_room}
use Rattle.texts.specs.Register.{register_answer, register_write_answer}
use Rattle.texts.proofs.WritingTexts.{small, refused_by, put, register-writable}
use Rattle.texts.proofs.register.write_register.Goals as goal

pub returns-then-buffer-lt-REGISTER_ROOM-clause-answer : goal.returns-then-buffer-lt-REGISTER_ROOM-clause-answer
unfolding register_write_answer
returns-then-buffer-lt-REGISTER_ROOM-clause-answer c =
    (small register_room _ _ _ c.if-buffer-lt-REGISTER_ROOM.true).0

pub returns-then-buffer-lt-REGISTER_ROOM-clause-bytes : goal.returns-then-buffer-lt-REGISTER_ROOM-clause-bytes
unfolding register_write_answer
returns-then-buffer-lt-REGISTER_ROOM-clause-bytes c =
    (small register_room _ _ _ c.if-buffer-lt-REGISTER_ROOM.true).1

pub returns-in_err-answer-clause-answer : goal.returns-in_err-answer-clause-answer
unfolding register_answer register_write_answer
returns-in_err-answer-clause-answer c =
    (refused_by register_room _ _ _ c.if-buffer-lt-REGISTER_ROOM.false _ _ c.from_residual.ensures.1 c.in_err-answer.ensures).0

pub returns-in_err-answer-clause-bytes : goal.returns-in_err-answer-clause-bytes
unfolding register_answer register_write_answer
returns-in_err-answer-clause-bytes c =
    (refused_by register_room _ _ _ c.if-buffer-lt-REGISTER_ROOM.false _ _ c.from_residual.ensures.1 c.in_err-answer.ensures).1

pub put_register-requires : goal.put_register-requires
put_register-requires c = register-writable _ _ c.if-buffer-lt-REGISTER_ROOM.false c.in_ok-answer.ensures

pub returns-clause-answer : goal.returns-clause-answer
unfolding register_answer register_write_answer
returns-clause-answer c =
    (put register_room _ _ _ c.if-buffer-lt-REGISTER_ROOM.false c.in_ok-answer.ensures c.put_register.ensures).0

pub returns-clause-bytes : goal.returns-clause-bytes
unfolding register_answer register_write_answer
returns-clause-bytes c =
    (put register_room _ _ _ c.if-buffer-lt-REGISTER_ROOM.false c.in_ok-answer.ensures c.put_register.ensures).1
