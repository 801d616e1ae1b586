-- `shortestpath` without the flag has one outcome.
use Rattle.std.proofs.Common.{◌≡◌, ◌<◌, ◌+◌, ℕ, Bool, List, [], ◌∷◌, Result, Ok, Err, IsErrOf, length, map, refl, sym, ap, ap₂, subst, ◌∙◌}
use Rattle.std.proofs.lemmas.List.{length-map}
use Rattle.std.proofs.lemmas.List.Sums.{sum_by-cons}
use Rattle.fst_semiring.specs.declared.arc_type.ArcType.{ArcType}
use Rattle.fst_semiring.specs.Cost.{Cost}
use Rattle.fst_machine.specs.Graph.{graph_of}
use Rattle.fst_machine.specs.Cycles.{IsUseful}
use Rattle.fst_machine.specs.Machine.{Machine, most_states}
use Rattle.fst_machine.specs.Steps.{written}
use Rattle.fst_machine.specs.declared.path.Step.{Step}
use Rattle.fst_machine.specs.Paths.{places}
use Rattle.fst_machine.specs.PathOrder.{WeightedPath}
use Rattle.fst_machine.proofs.PathOrder.{one_IsFirst}
use Rattle.fst_search.specs.Distances.{NoneImproves}
use Rattle.fst_nbest.specs.Chains.{IsChained, arcs_written, chain_of, chained}
use Rattle.fst_nbest.specs.FirstPaths.{AreFirstPaths, IfImproving}
use Rattle.fst_nbest.specs.Listing.{IsWritten}
use Rattle.fst_nbest.specs.declared.fault.NbestFault.{NbestFault}
use Rattle.fst_nbest.specs.declared.fault.NbestFault.TheVariants as faults
use Rattle.fst_words.specs.declared.options.Options.{Options}
use Rattle.fst_verbs.specs.Given.{Given}
use Rattle.fst_verbs.specs.Listing.{ImprovesPaths, IsUnlisted, Lists, listing_by, listing_meaning, path_count}
use Rattle.fst_verbs.specs.Meaning.{Made, Settles}
use Rattle.fst_verbs.specs.OneMeaning.{One}
use Rattle.fst_verbs.specs.declared.refusal.Refusal.{Refusal}
use Rattle.fst_verbs.specs.declared.commands.listing.Unlisted.{Unlisted}
use Rattle.fst_verbs.specs.declared.commands.listing.Unlisted.TheVariants.{NotAcceptor, HasEpsilon, ImprovingCycle, TooManyStates, Overflow}

module _ (kind : ArcType) (n : ℕ) (m : Machine Cost) where
  pub one_unlisted : One (IsUnlisted kind n m)
  one_unlisted (NotAcceptor state place) h one two = absurd one
  one_unlisted (HasEpsilon state place) h one two = absurd one
  one_unlisted ImprovingCycle (NotAcceptor state place) one two = absurd two
  one_unlisted ImprovingCycle (HasEpsilon state place) one two = absurd two
  one_unlisted ImprovingCycle ImprovingCycle one two = refl
  one_unlisted ImprovingCycle TooManyStates one two = absurd (two.0 one)
  one_unlisted ImprovingCycle (Overflow state) one two = absurd two
  one_unlisted TooManyStates (NotAcceptor state place) one two = absurd two
  one_unlisted TooManyStates (HasEpsilon state place) one two = absurd two
  one_unlisted TooManyStates ImprovingCycle one two = absurd (one.0 two)
  one_unlisted TooManyStates TooManyStates one two = refl
  one_unlisted TooManyStates (Overflow state) one two = absurd two
  one_unlisted (Overflow state) h one two = absurd one

  pub one_listed : One (Lists kind n m)
  one_listed r q one two = one.made ∙ (ap (λ (paths : List (WeightedPath ℕ)). chained (map (chain_of (graph_of m)) (map (λ a. places a.path) paths))) (one_IsFirst kind (graph_of m) n one.paths two.paths one.first two.first) ∙ sym two.made)

-- ---- what is told, and what is made

-- the flag says which of both is done
pub settles_listing : (unique : Bool) (o : Options) (given : Given) (result : Result Made Refusal) → o.unique ≡ unique → Settles (listing_by unique (path_count o)) given result → Settles (listing_meaning o) given result
settles_listing unique o given result is h = subst (λ (u : Bool). Settles (listing_by u (path_count o)) given result) (sym is) h

-- the cycle that a fault lists
pub listed_cycle : (fault : NbestFault) (path : List Step) (P : List Step → Type 0) → fault ≡ faults.ImprovingCycle path → IfImproving fault P → P path
listed_cycle fault path P e h = subst (λ (f : NbestFault). IfImproving f P) e h

-- what was made is not refused
pub not_full : {X F : Type 0} {fault : F} (result : Result X F) (made : X) → result ≡ Ok made → IsErrOf result fault → ⊥
not_full (Ok x) made e full = absurd (cc)
not_full (Err f) made e full = absurd (cc)

-- paths as they are written down have as many arcs
pub written_arcs : (paths : List (List Step)) → arcs_written (map written paths) ≡ arcs_written paths
written_arcs [] = refl
written_arcs (path ∷ paths) =
    sum_by-cons (λ (walk : List (ℕ × ℕ)). length walk) (written path) (map written paths)
    ∙ (ap₂ (λ (a b : ℕ). a + b) (length-map path (λ (s : Step). (s.state, s.place))) (written_arcs paths) ∙ sym (sum_by-cons (λ (p : List Step). length p) path paths))

module _ (kind : ArcType) (n : ℕ) (m : Machine Cost) (walks : List (List (ℕ × ℕ))) (firsts : AreFirstPaths kind (graph_of m) n walks) (none : NoneImproves kind (graph_of m) (IsUseful (graph_of m))) where
  pub fine : ImprovesPaths kind m → ⊥
  fine improves = none improves.0 improves.1 improves.2 improves.3

  pub too_long : most_states < arcs_written walks + 1 → IsUnlisted kind n m TooManyStates
  too_long long = (fine, record { paths = firsts.listed; first = firsts.first; long = subst (λ (ws : List (List (ℕ × ℕ))). most_states < arcs_written ws + 1) (sym firsts.written) long })

  pub listed_passes : (most_states < arcs_written walks + 1 → ⊥) → (why : Unlisted) → IsUnlisted kind n m why → ⊥
  listed_passes fits (NotAcceptor state place) none = absurd none
  listed_passes fits (HasEpsilon state place) none = absurd none
  listed_passes fits ImprovingCycle improves = fine improves
  listed_passes fits TooManyStates (clear, long) = fits (subst (λ (ws : List (List (ℕ × ℕ))). most_states < arcs_written ws + 1)
      (ap (λ (paths : List (WeightedPath ℕ)). map (λ a. places a.path) paths) (one_IsFirst kind (graph_of m) n long.paths firsts.listed long.first firsts.first) ∙ firsts.written) long.long)
  listed_passes fits (Overflow state) none = absurd none

  pub lists : (r : Machine Cost) → r ≡ chained (map (chain_of (graph_of m)) walks) → ((listed : List (WeightedPath ℕ)) → IsWritten kind (graph_of m) listed walks → IsChained kind listed (graph_of r)) → Lists kind n m r
  lists r made chains = record {
    paths = firsts.listed;
    first = firsts.first;
    made = made ∙ ap (λ (ws : List (List (ℕ × ℕ))). chained (map (chain_of (graph_of m)) ws)) (sym firsts.written);
    chains = chains firsts.listed (record { successful = firsts.first.successful; written = firsts.written });
  }
