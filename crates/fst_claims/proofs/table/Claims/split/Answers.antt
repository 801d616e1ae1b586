use Rattle.std.proofs.Common.{rules}
use Rattle.fst_claims.proofs.Joins.{splits}
use Rattle.fst_claims.proofs.table.Claims.split.Goals as goal

pub split_seat-seat-requires : goal.split_seat-seat-requires
split_seat-seat-requires c = (search rules, search rules, splits c.args.self.now.table.shared.key c.args.pass.now.seat.id c.args.pass.now.seat.me.0 c.requires.parts)
