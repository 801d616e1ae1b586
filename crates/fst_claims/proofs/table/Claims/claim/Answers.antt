use Rattle.std.proofs.Common.{◌≡◌, ◌++◌, ◌∷◌, [], ℕ, List, length, length-append, append_assoc, arith, ap, ◌∙◌}
use Rattle.fst_claims.specs.declared.view.View.{View}
use Rattle.fst_claims.specs.Passes.{view}
use Rattle.fst_claims.specs.Plays.{finds}
use Rattle.fst_claims.specs.Rule.{place_of}
use Rattle.fst_claims.proofs.Seen.{everywhere, passed_found, passed_more}
use Rattle.fst_claims.proofs.table.Claims.claim.Goals as goal

pub try_at-word-requires-clause-passed : goal.try_at-word-requires-clause-passed
try_at-word-requires-clause-passed c =
    let inv = c.loop-k.invariant in
    passed_found c.args.self.now.places c.args.code inv.seen inv.passed (view c.args.pass.now).found (view c.loop-k.pass) inv.found c.loop-k.k inv.count

pub loop-k-preserved : goal.loop-k-preserved
loop-k-preserved c =
    let inv = c.loop-k.invariant in
    let p : ℕ = c.args.self.now.places in
    let word : ℕ = c.try_at-word.result in
    let new : view c.try_at-word.new.pass ≡ finds (view c.loop-k.pass) (place_of p c.args.code c.loop-k.k) word = c.try_at-word.ensures.found c.if-word-eq0.false in
    record {
      seen = inv.seen ++ (place_of p c.args.code c.loop-k.k, word) ∷ [];
      passed = passed_more p c.args.code inv.seen inv.passed c.loop-k.k word inv.count c.if-word-code.false;
      count = omega (arith, length-append inv.seen ((place_of p c.args.code c.loop-k.k, word) ∷ []), inv.count);
      found = ap (λ (v : View). v.found) new ∙ (ap (λ (xs : List (ℕ × ℕ)). xs ++ (place_of p c.args.code c.loop-k.k, word) ∷ []) inv.found ∙ append_assoc (view c.args.pass.now).found inv.seen ((place_of p c.args.code c.loop-k.k, word) ∷ []));
      won = ap (λ (v : View). v.won) new ∙ inv.won;
      same = c.try_at-word.ensures.pass ∙ inv.same;
      like = (ap (λ (v : View). v.parts) new ∙ inv.like.0, ap (λ (v : View). v.places) new ∙ inv.like.1);
    }

pub returns-clause-told : goal.returns-clause-told
returns-clause-told c =
    let inv = c.loop-k.invariant in
    let whole : length inv.seen ≡ c.args.self.now.places = omega (arith, inv.count) in
    record { seen = inv.seen; passed = inv.passed; whole = whole; everywhere = everywhere c.args.self.now.places c.args.code inv.seen inv.passed whole; found = inv.found; won = inv.won; like = inv.like }
