-- Word weights of machines whose arcs serve for one another.
use Rattle.std.proofs.Common.{◌≡◌, ℕ, List, sym, ap, ap₂, ◌∙◌}
use Rattle.fst_semiring.specs.Cost.{Cost}
use Rattle.fst_semiring.specs.declared.arc_type.ArcType.{ArcType}
use Rattle.fst_semiring.specs.Semiring.{times}
use Rattle.fst_machine.specs.Graph.{Graph}
use Rattle.fst_machine.specs.Letters.{label_word, product}
use Rattle.fst_machine.specs.Serving.{Serves}
use Rattle.fst_machine.proofs.Serving.{served_path}
use Rattle.fst_trim.specs.WordWeights.{WordWeighs}

-- where arcs serve for arcs, words have the same weights
pub served_word : {N M : Type 0} (kind : ArcType) (R : N → M → Type 0) (g : Graph N) (h : Graph M) → Serves R g h → (x : List ℕ) (w : Cost) → WordWeighs kind g x w → WordWeighs kind h x w
served_word kind R g h s x w r =
    let p = r.weighs in
    let start = s.start r.first r.starts (record { last = p.last; path = p.path; leads = p.leads; final = p.final }) in
    let o = served_path R g h s r.first p.last start.0 p.path p.final start.2 p.leads in
    let same : h.final o.1 ≡ g.final p.last = s.final p.last o.1 o.4 in
    record {
      first = start.0;
      starts = start.1;
      weighs = record {
        path = o.0;
        last = o.1;
        leads = o.2;
        final = (λ e. p.final (sym same ∙ e));
        word = p.word ∙ ap label_word (sym o.3);
        weight = p.weight ∙ ap₂ (λ ls v. times kind (product kind ls) v) (sym o.3) (sym same);
      };
    }
