-- What is said of one thing alone: of the one machine or the two, of a machine that is made, of what tells a fault, of
-- what reading a text, or printing one, gives.
use Rattle.std.proofs.Common.{◌≡◌, List, [], ◌∷◌, Result, Ok, Err, refl, sym, ap, ◌∙◌}
use Rattle.fst_semiring.specs.declared.arc_type.ArcType.{ArcType}
use Rattle.fst_semiring.specs.Cost.{Cost}
use Rattle.fst_machine.specs.Machine.{Machine}
use Rattle.fst_verbs.specs.Meaning.{IsMachine, answered, coded, for_one, for_two, machine, never, separation, text}
use Rattle.fst_verbs.specs.OneMeaning.{One}

-- nothing
pub one_never : One never
one_never f h one two = absurd one

-- what is equal to this
pub one_equal : {X : Type 0} (it : X) (Q : X → Type 0) → One (λ x. (x ≡ it) × Q x)
one_equal it Q x y one two = one.0 ∙ sym two.0

-- what reading a text, or printing one, gives
pub one_error : {X E : Type 0} (read : Result X E) → One (λ e. read ≡ Err e)
one_error read e f one two = let same = sym one ∙ two in cc

pub one_value : {X E : Type 0} (read : Result X E) → One (λ x. read ≡ Ok x)
one_value read x y one two = let same = sym one ∙ two in cc

-- what tells things of which one line is told, and what tells one thing
pub one_line : {W Y : Type 0} (P : W → Type 0) (tell : W → Y) → ((w v : W) → P w → P v → tell w ≡ tell v) → One (λ y. (w : W) × P w × (y ≡ tell w))
one_line P tell same x y one two = one.2 ∙ (same one.0 two.0 one.1 two.1 ∙ sym two.2)

pub one_told : {W Y : Type 0} (P : W → Type 0) (tell : W → Y) → One P → One (λ y. (w : W) × P w × (y ≡ tell w))
one_told P tell only = one_line P tell (λ w v one two. ap tell (only w v one two))

module _ {X : Type 0} where
  -- what is said with the one machine, and with the two
  pub one_for_one : (says : X → Machine Cost → Type 0) → ((m : Machine Cost) → One (λ x. says x m)) → (ms : List (Machine Cost)) → One (λ x. for_one ms (says x))
  one_for_one says only [] x y one two = absurd one
  one_for_one says only (m ∷ []) x y one two = only m x y one two
  one_for_one says only (m ∷ n ∷ ms) x y one two = absurd one

  pub one_for_two : (says : X → Machine Cost → Machine Cost → Type 0) → ((m n : Machine Cost) → One (λ x. says x m n)) → (ms : List (Machine Cost)) → One (λ x. for_two ms (says x))
  one_for_two says only [] x y one two = absurd one
  one_for_two says only (m ∷ []) x y one two = absurd one
  one_for_two says only (m ∷ n ∷ []) x y one two = only m n x y one two
  one_for_two says only (m ∷ n ∷ o ∷ ms) x y one two = absurd one

-- a machine that is made
pub one_made : (kind : ArcType) (says : Machine Cost → Type 0) → One says → One (IsMachine kind says)
one_made kind says only (machine k m) (machine j n) one two = rw (one.0, two.0, only m n one.1 two.1) refl
one_made kind says only (machine k m) (text bytes) one two = absurd two
one_made kind says only (machine k m) (coded j table n) one two = absurd two
one_made kind says only (machine k m) (answered bytes e) one two = absurd two
one_made kind says only (machine k m) (separation bytes) one two = absurd two
one_made kind says only (text bytes) y one two = absurd one
one_made kind says only (coded j table n) y one two = absurd one
one_made kind says only (answered bytes e) y one two = absurd one
one_made kind says only (separation bytes) y one two = absurd one
