use Rattle.ken_disk.proofs.Images.{image_at_rest, image-seen_at_rest, came_up}
use Rattle.ken_disk.proofs.laws.crashes.Goals as goal

pub returns-clause-rests : goal.returns-clause-rests
returns-clause-rests c = λ s image rests is. image_at_rest s rests image is

pub returns-clause-image : goal.returns-clause-image
returns-clause-image c = image-seen_at_rest

pub returns-clause-restarted : goal.returns-clause-restarted
returns-clause-restarted c = came_up
