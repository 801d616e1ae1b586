use Rattle.std.proofs.Common.{◌≡◌, ℕ, true, sym, ◌∙◌}
use Rattle.fst_nbest.specs.Classes.{name_at}
use Rattle.fst_nbest.proofs.Counted.{pushed_where}
use Rattle.fst_nbest.proofs.class_back.put_name.Goals as goal

pub returns-in_ok-push-clause-just : goal.returns-in_ok-push-clause-just
returns-in_ok-push-clause-just c =
    pushed_where (λ (x : ℕ). (x ≡ name_at c.args.states c.args.state c.args.from) × (c.args.is_source ≡ true)) c.args.sources.now.items c.push.new.self.items c.named.result c.in_ok-push.ensures.items (c.named.ensures.name, c.if-is_source.true)
    (λ x p. c.named.ensures.name ∙ sym p.0)
