-- Which programs the userland has.
use Rattle.std.specs.Prelude.{ℕ, List, Option, Some, None, if◌then◌else◌, codes}
use Rattle.std.specs.Str.{bytes_eq}
use Rattle.userland.specs.declared.cat.TheConstants.{CAT}
use Rattle.userland.specs.declared.echo.TheConstants.{ECHO}
use Rattle.userland.specs.declared.init.TheConstants.{INIT}
use Rattle.userland.specs.declared.ls.TheConstants.{LS}
use Rattle.userland.specs.declared.pump.TheConstants.{PUMP}
use Rattle.userland.specs.declared.tee.TheConstants.{TEE}
use Rattle.userland.specs.declared.wc.TheConstants.{WC}

-- the source of the program of a name
unfoldable pub source_named : List ℕ → Option (List ℕ)
source_named name =
    if bytes_eq name (codes "init") then Some INIT.now else
    if bytes_eq name (codes "echo") then Some ECHO.now else
    if bytes_eq name (codes "cat") then Some CAT.now else
    if bytes_eq name (codes "tee") then Some TEE.now else
    if bytes_eq name (codes "wc") then Some WC.now else
    if bytes_eq name (codes "ls") then Some LS.now else
    if bytes_eq name (codes "pump") then Some PUMP.now else
    None
