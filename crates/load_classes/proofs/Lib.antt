mod RangeLaws
mod Digits
mod LoadPool
mod LoadMethods
mod LoadSize
