use Rattle.std.proofs.Common.{◌≡◌, ◌<◌, ◌++◌, ◌∷◌, [], ℕ, List, length, map, sym, ap, ◌∙◌, subst}
use Rattle.std.specs.List.{All}
use Rattle.fst_semiring.specs.Cost.{Cost}
use Rattle.fst_semiring.specs.Semiring.{times}
use Rattle.fst_machine.specs.Machine.{Arc, State, valued_arc, valued_state}
use Rattle.fst_machine.specs.Graph.{graph_of, renamed}
use Rattle.fst_machine.specs.Narrowing.{IsInRange}
use Rattle.fst_minimize.specs.Classes.{class_state}
use Rattle.fst_minimize.specs.Laws.{totalled_state}
use Rattle.fst_minimize.specs.Numbered.{number_in}
use Rattle.fst_minimize.proofs.Made.{arcs_below, ends_below, map_fuse}
use Rattle.fst_minimize.proofs.making.put_class.Given as given
use Rattle.fst_minimize.proofs.making.put_class.Goals as goal

pub put_renamed-requires : goal.put_renamed-requires
put_renamed-requires g c =
    let w = g.W.Weight in
    let m = c.args.pushed.now in
    subst (λ (xs : List (Arc _ ℕ)). All (λ a. a.next < length c.args.numbers.now) xs) (sym c.deref.ensures.value)
    (ends_below w.wide_value c.put_arcs.new.out.items ((graph_of m).arcs c.args.state) (length c.args.numbers.now) c.in_ok-put_arcs.ensures.arcs (arcs_below m c.args.state (length c.args.numbers.now) c.states-states.ensures.machine c.requires.state c.requires.size))

made : (g : given.Over) (c : goal.In_ok-fits g) → valued_state g.W.Weight.wide_value (record { final = c.wide_times-last.result; arcs = c.deref-2.result.now }) ≡ totalled_state g.W.Weight.KIND (g.W.Weight.wide_value c.args.total) (class_state c.args.pushed.now c.args.numbers.now c.args.state)
made g c =
    let w = g.W.Weight in
    let f = renamed {N = ℕ} {M = ℕ} (number_in c.args.numbers.now) in
    let final : w.wide_value c.wide_times-last.result ≡ times w.KIND (w.wide_value c.args.total) ((graph_of c.args.pushed.now).final c.args.state) = c.wide_times-last.ensures.product ∙ ap (times w.KIND (w.wide_value c.args.total)) c.final_weight.ensures.value in
    let arcs : map (valued_arc w.wide_value) c.deref-2.result.now ≡ map f ((graph_of c.args.pushed.now).arcs c.args.state) =
    ap (map (valued_arc w.wide_value)) c.deref-2.ensures.value
    ∙ (c.in_ok-put_renamed.ensures
    ∙ (ap (map (λ a. f (valued_arc w.wide_value a))) c.deref.ensures.value
    ∙ (map_fuse (valued_arc w.wide_value) f c.put_arcs.new.out.items ∙ ap (map f) c.in_ok-put_arcs.ensures.arcs))) in
    λ i. record { final = final i; arcs = arcs i }

pub returns-clause-fits : goal.returns-clause-fits
returns-clause-fits g c =
    let fits = c.in_ok-fits.ensures.fits in
    ((λ e. subst IsInRange (made g c) (fits.0 e)), (λ h. fits.1 (subst IsInRange (sym (made g c)) h)))

pub returns-clause-list : goal.returns-clause-list
returns-clause-list g c = λ e. c.in_ok-fits.ensures.list e ∙ ap (λ (s : State Cost). map (valued_state g.W.Weight.value) c.args.list.now ++ s ∷ []) (made g c)
