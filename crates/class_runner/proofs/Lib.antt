pub mod FilesRead
pub mod MethodsDecoded
pub mod MethodsFound
pub mod MethodsTyped
pub mod MethodsTagged
pub mod LoadedOnce
pub mod RefusedOnce
pub mod LoadedOrRefused
