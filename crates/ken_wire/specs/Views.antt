-- What the ends of a wire know.
use Rattle.std.specs.Prelude.{ℕ, List, [], ◌∷◌, ◌++◌, true, false}
use Rattle.ken_model.specs.declared.messages.Message.{Message}
use Rattle.ken_wire.specs.declared.view.Sent.{Sent}
use Rattle.ken_wire.specs.declared.view.View.{View}

abbrev pub nothing : Sent
nothing = record { put = []; sealed = []; consumed = [] }

-- after one more put, with what was handed in
abbrev pub after_put : List Message → List (ℕ × ℕ) → List ℕ → Sent → Sent
after_put sealed consumed bytes s = record { put = s.put ++ bytes ∷ []; sealed = s.sealed ++ sealed; consumed = s.consumed ++ consumed }

-- the end of a node that sends
abbrev pub sending : ℕ → Sent → View
sending from sent = record { sends = true; from = from; sent = sent; takes = false; heard = []; made = 0; joined = [] }

-- the end that takes
abbrev pub taking : ℕ → List (List ℕ) → List Sent → View
taking made heard joined = record { sends = false; from = 0; sent = nothing; takes = true; heard = heard; made = made; joined = joined }

-- an end that came back
abbrev pub spent : View
spent = record { sends = false; from = 0; sent = nothing; takes = false; heard = []; made = 0; joined = [] }
