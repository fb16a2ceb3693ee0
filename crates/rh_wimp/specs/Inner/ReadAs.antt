-- Parts of a message as they are read: by its action, and by who reads it.
use Rattle.std.specs.Prelude.{Bool, Result, Ok, Err}
use Rattle.rh_defs.specs.declared.message.Action.{Action}
use Rattle.rh_defs.specs.declared.message.Action.TheVariants as action
use Rattle.rh_defs.specs.declared.message.Body.{Body}
use Rattle.rh_defs.specs.declared.message.Body.TheVariants.{DataSave, DataSaveAck, DataLoad, DataLoadAck}
use Rattle.rh_defs.specs.declared.message.FileData.{FileData}
use Rattle.rh_defs.specs.declared.message.Message.{Message}
use Rattle.rh_defs.specs.declared.message.MessageFault.{MessageFault}
use Rattle.rh_wimp.specs.Chains.{message_as}

-- what a message about a file says, by its action
abbrev pub body_about : Action → FileData → Body
body_about action.DataSave file = DataSave file
body_about action.DataSaveAck file = DataSaveAck file
body_about action.DataLoad file = DataLoad file
body_about _ file = DataLoadAck file

-- the message that was read, if one was
abbrev pub decoded_as : Bool → Result Message MessageFault → Result Message MessageFault
decoded_as played (Ok m) = Ok (message_as played m)
decoded_as played (Err fault) = Err fault
