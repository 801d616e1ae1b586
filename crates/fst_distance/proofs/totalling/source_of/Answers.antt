use Rattle.std.proofs.Common.{◌<◌, ℕ, Some, None, length, sym, ◌∙◌, subst}
use Rattle.fst_distance.specs.Totals.{IsAmong, IsSource, put_on}
use Rattle.fst_distance.specs.declared.placing.Place.{Place}
use Rattle.fst_distance.specs.declared.placing.Place.TheVariants.{OnStart, OnCopy}
use Rattle.fst_distance.proofs.TotalPut.{before_source, copy_source, other_source, start_source}
use Rattle.fst_distance.proofs.totalling.source_of.Goals as goal

pub returns-then-start-state : goal.returns-then-start-state
returns-then-start-state c kind total m size among low =
    let s = c.in-OnStart.start in
    let here : IsAmong (length m.states) (OnStart s) = subst (λ (n : ℕ). IsAmong n (OnStart s)) size (subst (IsAmong c.args.states) c.in-OnStart.is among) in
    subst (λ (p : Place). IsSource kind total m p c.args.state (Some s)) (sym c.in-OnStart.is) (start_source kind total m s c.args.state c.if-start-state.true here)

pub returns-else-start-state : goal.returns-else-start-state
returns-else-start-state c kind total m size among low =
    let s = c.in-OnStart.start in
    subst (λ (p : Place). IsSource kind total m p c.args.state None) (sym c.in-OnStart.is)
    (other_source kind total m s c.args.state c.if-start-state.false (subst (λ (p : Place). c.args.state < length (put_on kind total m p).states) c.in-OnStart.is low))

pub returns-then-states-state : goal.returns-then-states-state
returns-then-states-state c kind total m size among low =
    let s = c.in-OnCopy.start in
    let here : IsAmong (length m.states) (OnCopy s) = subst (λ (n : ℕ). IsAmong n (OnCopy s)) size (subst (IsAmong c.args.states) c.in-OnCopy.is among) in
    subst (λ (p : Place). IsSource kind total m p c.args.state (Some s)) (sym c.in-OnCopy.is) (copy_source kind total m s c.args.state (sym size ∙ c.if-states-state.true) here)

pub returns-else-states-state : goal.returns-else-states-state
returns-else-states-state c kind total m size among low =
    let s = c.in-OnCopy.start in
    subst (λ (p : Place). IsSource kind total m p c.args.state None) (sym c.in-OnCopy.is)
    (before_source kind total m s c.args.state (λ e. c.if-states-state.false (size ∙ e)) (subst (λ (p : Place). c.args.state < length (put_on kind total m p).states) c.in-OnCopy.is low))
