-- Trails: the links of a search, followed back.
use Rattle.std.proofs.Common.{◌≡◌, ℕ, List, [], ◌∷◌, ◌++◌, Option, Some, refl, ap, ◌∙◌}
use Rattle.fst_machine.specs.declared.path.Step.{Step}
use Rattle.fst_search.specs.Searching.{IsTrail}

-- one step more at the end
pub IsTrail-push : (L : ℕ → Option Step) (trail : List Step) (q x : ℕ) (s : Step) → IsTrail L q trail x → L x ≡ Some s → IsTrail L q (trail ++ s ∷ []) s.state
IsTrail-push L [] q x s here link = (ap L here ∙ link, refl)
IsTrail-push L (t ∷ trail) q x s leads link = (leads.0, IsTrail-push L trail t.state x s leads.1 link)
