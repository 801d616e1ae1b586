-- What a command makes is one thing, with as many outputs as its plan stores.
use Rattle.std.proofs.Common.{◌≡◌, ℕ, Bool, true, false, List, [], ◌∷◌, length, Option, Some, None, Ok, refl, sym, ap, ◌∙◌, cond}
use Rattle.fst_semiring.specs.declared.arc_type.ArcType.{ArcType}
use Rattle.fst_semiring.specs.Cost.{Cost}
use Rattle.fst_machine.specs.Machine.{Machine}
use Rattle.fst_codex.specs.Decoded.{Decodes}
use Rattle.fst_codex.specs.Table.{Table}
use Rattle.fst_verbs.specs.Coding.{Encodes, IsCoded, coding_makes, for_codex}
use Rattle.fst_verbs.specs.Given.{Given}
use Rattle.fst_binary.specs.Sides.{Sides, neither}
use Rattle.fst_verbs.specs.Meaning.{IsMachine, Made, answered, bytes_of, coded, for_one, for_two, machine, separation, text}
use Rattle.fst_verbs.specs.OneMeaning.{One}
use Rattle.fst_verbs.proofs.Deciding.{one_for_one, one_for_two, one_made, one_told}
use Rattle.fst_verbs.proofs.DecidingCoding.{one_coding_makes}

-- of one thing this is said, and it has so many outputs
pub record IsOneMade (stored : ℕ) (says : Made → Type 0) : Type 0 where
  pub one : One says
  pub count : (made : Made) → says made → length (bytes_of neither made) ≡ stored

-- it is this very thing
-- symbol tables change no number of outputs
pub as_many : (s : Sides) (made : Made) → length (bytes_of s made) ≡ length (bytes_of neither made)
as_many s (machine kind m) = refl
as_many s (text bytes) = refl
as_many s (coded kind table m) = refl
as_many s (answered bytes expansions) = refl
as_many s (separation bytes) = refl

pub the_made : (it : Made) → IsOneMade (length (bytes_of neither it)) (λ x. x ≡ it)
the_made it = record { one = λ x y one two. one ∙ sym two; count = λ x is. ap (λ (y : Made). length (bytes_of neither y)) is }

-- a machine
count_machine : (kind : ArcType) (says : Machine Cost → Type 0) (made : Made) → IsMachine kind says made → length (bytes_of neither made) ≡ 1
count_machine kind says (machine k m) is = refl
count_machine kind says (text bytes) is = absurd is
count_machine kind says (coded k t m) is = absurd is
count_machine kind says (answered bytes n) is = absurd is
count_machine kind says (separation bytes) is = absurd is

pub a_machine : (kind : ArcType) (says : Machine Cost → Type 0) → One says → IsOneMade 1 (IsMachine kind says)
a_machine kind says only = record { one = one_made kind says only; count = count_machine kind says }

-- a text that tells one thing
pub a_text : {W : Type 0} (P : W → Type 0) (tell : W → List ℕ) → One P → IsOneMade 1 (λ x. (w : W) × P w × (x ≡ text (tell w)))
a_text P tell only = record { one = one_told P (λ w. text (tell w)) only; count = λ x is. ap (λ (y : Made). length (bytes_of neither y)) is.2 }

-- what is made of the one machine, and of the two
module _ {n : ℕ} where
  count_one : (says : Made → Machine Cost → Type 0) → ((m : Machine Cost) → IsOneMade n (λ x. says x m)) → (ms : List (Machine Cost)) (made : Made) → for_one ms (says made) → length (bytes_of neither made) ≡ n
  count_one says only [] made is = absurd is
  count_one says only (a ∷ []) made is = (only a).count made is
  count_one says only (a ∷ b ∷ ms) made is = absurd is

  pub of_one : (says : Made → Machine Cost → Type 0) → ((m : Machine Cost) → IsOneMade n (λ x. says x m)) → (ms : List (Machine Cost)) → IsOneMade n (λ x. for_one ms (says x))
  of_one says only ms = record { one = one_for_one says (λ m. (only m).one) ms; count = count_one says only ms }

  count_two : (says : Made → Machine Cost → Machine Cost → Type 0) → ((a b : Machine Cost) → IsOneMade n (λ x. says x a b)) → (ms : List (Machine Cost)) (made : Made) → for_two ms (says made) → length (bytes_of neither made) ≡ n
  count_two says only [] made is = absurd is
  count_two says only (a ∷ []) made is = absurd is
  count_two says only (a ∷ b ∷ []) made is = (only a b).count made is
  count_two says only (a ∷ b ∷ c ∷ ms) made is = absurd is

  pub of_two : (says : Made → Machine Cost → Machine Cost → Type 0) → ((a b : Machine Cost) → IsOneMade n (λ x. says x a b)) → (ms : List (Machine Cost)) → IsOneMade n (λ x. for_two ms (says x))
  of_two says only ms = record { one = one_for_two says (λ a b. (only a b).one) ms; count = count_two says only ms }

-- what is encoded, or decoded
two_coded : (kind : ArcType) (says : Table Cost → Machine Cost → Type 0) (made : Made) → IsCoded kind says made → length (bytes_of neither made) ≡ 2
two_coded kind says (machine k m) is = absurd is
two_coded kind says (text bytes) is = absurd is
two_coded kind says (answered bytes n) is = absurd is
two_coded kind says (separation bytes) is = absurd is
two_coded kind says (coded k t m) is = refl

decoded_count : (kind : ArcType) (says : Machine Cost → Table Cost → Machine Cost → Type 0) (made : Made) (ms : List (Machine Cost)) (c : Option (Table Cost)) → for_one ms (λ m. for_codex c (λ table. IsMachine kind (says m table) made)) → length (bytes_of neither made) ≡ 1
decoded_count kind says made [] c is = absurd is
decoded_count kind says made (m ∷ []) None is = absurd is
decoded_count kind says made (m ∷ []) (Some t) is = count_machine kind (says m t) made is
decoded_count kind says made (m ∷ n ∷ ms) c is = absurd is

encoded_count : (kind : ArcType) (says : Machine Cost → Table Cost → Machine Cost → Type 0) (made : Made) (ms : List (Machine Cost)) → for_one ms (λ m. IsCoded kind (says m) made) → length (bytes_of neither made) ≡ 2
encoded_count kind says made [] is = absurd is
encoded_count kind says made (m ∷ []) is = two_coded kind (says m) made is
encoded_count kind says made (m ∷ n ∷ ms) is = absurd is

of_coding : (decode weights : Bool) (given : Given) (made : Made) → coding_makes decode weights given made → length (bytes_of neither made) ≡ cond decode 1 2
of_coding true weights given made is = decoded_count given.kind (λ m table r. Decodes given.kind (λ w. w) m table (Ok r)) made given.machines given.codex is
of_coding false weights given made is = encoded_count given.kind (λ m table r. Encodes given.kind weights m r table) made given.machines is

pub a_coding : (decode weights : Bool) (given : Given) → IsOneMade (cond decode 1 2) (coding_makes decode weights given)
a_coding decode weights given = record { one = one_coding_makes decode weights given; count = of_coding decode weights given }
