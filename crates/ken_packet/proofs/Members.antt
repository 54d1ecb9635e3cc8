-- The forms of the parts of a packet.
use Rattle.std.proofs.Common.{◌≡◌, ◌≤◌, ◌<◌, ◌^◌, ◌++◌}
use Rattle.ken_record.specs.Spelling.{text}
use Rattle.ken_record.specs.Grammar.{IsText}
use Rattle.ken_record.proofs.Forms.{IsForm, seq_form, number_1, number_8}
use Rattle.ken_record.proofs.Members.{text_form}
use Rattle.ken_packet.specs.Packets.{head, counts}
use Rattle.ken_packet.specs.Reading.{head_at, counts_at, body_at}

pub head_form : IsForm (λ x. head x.0 x.1.0 x.1.1) (λ x. (x.0 < 2 ^ 8) × ((x.1.0 < 2 ^ 8) × (x.1.1 < 2 ^ 8))) head_at
unfolding head_at
head_form = seq_form number_1 (seq_form number_1 number_1)

pub counts_form : IsForm (λ x. counts x.0 x.1) (λ x. (x.0 < 2 ^ 64) × (x.1 < 2 ^ 64)) counts_at
unfolding counts_at
counts_form = seq_form number_8 number_8

pub body_form : IsForm (λ x. counts x.0.0 x.0.1 ++ text x.1) (λ x. ((x.0.0 < 2 ^ 64) × (x.0.1 < 2 ^ 64)) × IsText x.1) body_at
unfolding body_at
body_form = seq_form counts_form text_form
