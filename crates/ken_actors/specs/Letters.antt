-- What a turn sends, as it is got ready: each text is there twice, for the link and for whoever made the step.
use Rattle.ken_model.specs.declared.messages.Send.{Send}
use Rattle.ken_actors.specs.declared.node.Letter.{Letter}

-- what goes to the link
abbrev pub send_of : Letter → Send
send_of l = l.send

-- the same with the copy
abbrev pub copy_of : Letter → Send
copy_of l = record { to = l.send.to; bytes = l.copy }
