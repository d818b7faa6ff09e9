mod DoingActs
mod TopByNumber
mod ElementStands
mod NamingWords
mod ClassesTold
