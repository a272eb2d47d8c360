-- What a line asks of a sign and the objects beside it (this profile).
use Rattle.std.specs.Prelude.{ℕ, List}
use Rattle.dms_wire.specs.Message.{ObjectValue, VarBind}
use Rattle.dms_device.specs.declared.access.ManagerAccess.{ManagerAccess}

-- an object to be published
pub record NewObject : Type 0 where
  pub name : List ℕ
  pub value : ObjectValue
  pub access : ManagerAccess

pub data AgentCall : Type 0 where
  -- the sign and the objects receive these octets
  receive : (octets : List ℕ) → AgentCall
  publish : (object : NewObject) → AgentCall
  -- the object of this name is withdrawn
  withdraw : (name : List ℕ) → AgentCall
  -- from here on the objects of the sign's fonts can be read
  show_fonts : AgentCall
  -- firmware is told which objects a manager set
  tell : AgentCall
  -- the object of a name gets the value back that a manager had set
  put_back : (binding : VarBind) → AgentCall
  -- the state is asked for
  save : AgentCall
