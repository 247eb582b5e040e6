-- A legal register has at most sixteen shops, with the own shop among them.
use mathlib.Core.Path.{◌≡◌}
use lib.ListN.{length}
use native.Mathlib.Omega.{arith}
use borrow.Author.Rules.{rules}
use Rattle.texts.proofs.Values.{length-mapped}
use Rattle.replica.proofs.Kept.{same-line}
use Rattle.replica.proofs.ByPosition.{few-shops, own-below}
use Rattle.replica.proofs.record.Replica.is_kept.Goals as goal

pub split_at-requires : goal.split_at-requires
split_at-requires c = let places : length c.args.self.now.shops ≡ 16 = search (length-mapped, rules) in omega (arith, few-shops c.args.self.now c.requires)

pub offset_bounds-self-position : goal.offset_bounds-self-position
offset_bounds-self-position c = omega (arith, c.position.ensures, few-shops c.args.self.now c.requires, own-below c.args.self.now c.requires)

pub bounds-self-position : goal.bounds-self-position
bounds-self-position c = omega (arith, c.position.ensures, few-shops c.args.self.now c.requires, own-below c.args.self.now c.requires)

pub are_all-requires-then-are_all : goal.are_all-requires-then-are_all
are_all-requires-then-are_all c = same-line
