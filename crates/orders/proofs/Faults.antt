-- The fields of the first line, put one after another.
use Rattle.std.proofs.Common.{◌≡◌, ℕ, List, [], ◌∷◌, Err, refl}
use Rattle.answers.specs.declared.parts.Fault.{Fault}
use Rattle.orders.specs.Order.{put_fields}

-- a fault stays
pub fault_stays : (place : ℕ) (fault : Fault) (fs : List (List ℕ)) → put_fields place (Err fault) fs ≡ Err fault
fault_stays place fault [] = refl
fault_stays place fault (f ∷ fs) = refl
